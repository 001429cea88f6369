-- The proofs: each chain of calls is the machine's run, and the setup's second form and the dearest list are what the machine's are.
pub mod Accepted
pub mod Results
pub mod Answered
pub mod Chain
pub mod Agrees
pub mod Theorem
pub mod Order
pub mod Dearest
pub mod Controls
