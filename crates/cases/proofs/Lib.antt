-- What the functions' proofs share.
pub mod Digests
pub mod Lines
pub mod Parts
pub mod Shown
pub mod Decimals
