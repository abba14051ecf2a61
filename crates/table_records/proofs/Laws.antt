pub mod Offset
pub mod OrderKey
