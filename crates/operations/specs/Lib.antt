-- What the operations are told of a process.
pub mod Setting
