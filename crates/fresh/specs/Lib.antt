-- What the functions on setups and closed names promise.
pub mod Accepted
pub mod Counts
