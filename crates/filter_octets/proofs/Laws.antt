pub mod Octets
pub mod Size
