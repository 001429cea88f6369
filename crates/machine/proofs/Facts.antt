-- Facts that mention no machine: tests, lists, the tree, words, checks, a setup's among them, lent buffers.
pub mod Tests
pub mod Below
pub mod Tabulated
pub mod Lists
pub mod Rows
pub mod Words
pub mod Leaves
pub mod Checks
pub mod Refusals
pub mod SetupFirst
pub mod Filled
pub mod FromFn
