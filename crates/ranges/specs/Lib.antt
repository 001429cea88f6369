-- The tests of a state's numbers, over the numbers that a function is handed.
pub mod Tests
