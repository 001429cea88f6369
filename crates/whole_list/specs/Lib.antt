-- What is said of the calls: chains of calls with demand 3, the setup's order of work, and the dearest claim.
pub mod Calls
pub mod Whole
pub mod Order
pub mod Dearest
