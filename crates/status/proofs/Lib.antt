-- What the proofs of the status records rest on.
pub mod Written
