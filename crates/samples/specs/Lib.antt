pub mod Samples
pub mod Messages
