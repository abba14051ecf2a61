pub mod Internal
pub mod Shortest
