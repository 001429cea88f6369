-- What the functions' proofs share.
pub mod Bounds
pub mod Bytes
pub mod Level
pub mod Lists
pub mod Names
pub mod Ones
pub mod Packed
pub mod Shut
pub mod Verdict
pub mod Ranks
