-- What the program prints, byte by byte; Controls has texts written out.
pub mod Lines
pub mod Lent
pub mod File
pub mod Controls
