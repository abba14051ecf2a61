pub mod Reading
pub mod Settled
pub mod Internal
