-- The proofs: a file that is written has the layout, a file that has the layout is one that is written, and so the two directions.
pub mod Words
pub mod Laid
pub mod Read
pub mod Definitions
pub mod Calls
