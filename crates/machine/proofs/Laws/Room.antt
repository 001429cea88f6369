-- The tests of room are the machine's own test, `in_range` of the state after the step: a file for each stage that takes a step.
pub mod Gate
pub mod Getname
pub mod Putname
