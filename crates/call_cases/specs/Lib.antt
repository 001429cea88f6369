-- The calls that the program makes.
pub mod Call
