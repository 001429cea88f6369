-- Demand 3 as one record type: Claim is the first file to read. Controls has runs that show it is not empty.
pub mod Claim
pub mod History
pub mod Controls
