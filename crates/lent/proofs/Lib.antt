-- Laws of texts in lent buffers.
pub mod Texts
