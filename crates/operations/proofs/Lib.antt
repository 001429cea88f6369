-- What the functions' proofs share.
pub mod Bytes
pub mod Turns
