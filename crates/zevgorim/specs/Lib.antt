-- What C is given where it cannot be given a slice, and C's numbers as bytes.
pub mod Part
pub mod Narrow
