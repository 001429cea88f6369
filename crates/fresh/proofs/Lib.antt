-- What the functions' proofs share.
pub mod Sizes
pub mod Levels
pub mod Counted
pub mod Listed
pub mod Filled
