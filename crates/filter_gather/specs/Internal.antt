pub mod Gather
pub mod Letters
pub mod Seen
