-- What the functions' proofs share.
pub mod Listed
pub mod Made
pub mod Signs
