-- What the exports' proofs share: C's numbers as bytes.
pub mod Narrowed
