-- The forms in which the test programs read a state, and show one, and the lines that they print.
pub mod Image
pub mod Line
