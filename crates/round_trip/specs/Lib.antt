-- Document 02, a): the day file in both directions, said of the definitions and of the calls.
pub mod Definitions
pub mod Calls
pub mod Directions
