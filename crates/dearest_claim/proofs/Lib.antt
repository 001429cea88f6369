-- The proof: what a claim can cost, the run of the list, the theorem, and what the call gives.
pub mod Cost
pub mod Others
pub mod Entered
pub mod Run
pub mod Sizes
pub mod Theorem
pub mod Call
pub mod Controls
