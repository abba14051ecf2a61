pub mod Octets
pub mod Internal
