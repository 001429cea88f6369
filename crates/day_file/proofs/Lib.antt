-- What the functions' proofs share.
pub mod Accepted
pub mod Controls
pub mod Marks
