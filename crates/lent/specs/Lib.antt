-- What a text in a lent buffer is after more was put.
pub mod Text
