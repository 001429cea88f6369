-- The proof of the claim. Theorem is the theorem; Invariant what it rests on.
pub mod Facts
pub mod Invariant
pub mod Regions
pub mod Mover
pub mod Bits
pub mod Gate
pub mod Bounds
pub mod Implies
pub mod Cost
pub mod Start
pub mod Preserved
pub mod Steps
pub mod Along
pub mod Rounds
pub mod Theorem
pub mod Controls
