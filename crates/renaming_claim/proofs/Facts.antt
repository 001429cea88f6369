-- Facts that mention no machine.
pub mod Sums
pub mod Computed
pub mod Tree
