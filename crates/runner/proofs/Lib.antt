-- What the runner's proof rests on.
pub mod Going
