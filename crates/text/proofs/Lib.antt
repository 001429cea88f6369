-- What the functions' proofs share.
pub mod Entries
pub mod Lent
pub mod Room
pub mod Texts
pub mod FileRuns
pub mod Decimal
pub mod Controls
