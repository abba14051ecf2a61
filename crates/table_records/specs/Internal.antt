pub mod Offset
pub mod Alike
pub mod OrderKey
