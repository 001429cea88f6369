-- What a day file is, what its reader gives and what its writer writes; Controls has files written out.
pub mod Layout
pub mod Writer
pub mod Controls
