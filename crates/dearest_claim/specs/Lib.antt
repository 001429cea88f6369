-- The dearest claim for a setup: its figure and a list that reaches it, what the call gives, what holds of them, and small setups computed.
pub mod Dearest
pub mod Theorem
pub mod Controls
