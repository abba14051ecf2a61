pub mod Gather
pub mod Letters
pub mod Seen
pub mod Turn
