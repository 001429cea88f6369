-- Runs that show the claim is not empty, that its bounds are reached, and that each unmade repair of document 01 breaks it.
pub mod Reached
pub mod Repairs
