-- Computed runs: the claim is not empty, its bounds are reached, and each unmade repair of document 01 breaks it.
pub mod Reached
pub mod Repairs
