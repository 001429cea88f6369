-- What is proved of the definitions: the worked orders, the laws, and the facts that they rest on.
pub mod Rules
pub mod Facts
pub mod Closed
pub mod Ranges
pub mod Sized
pub mod Places
pub mod Stores
pub mod Moves
pub mod Laws
pub mod Valid
pub mod Own
pub mod Runs
pub mod Worked
pub mod Controls
