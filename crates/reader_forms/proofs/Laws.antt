pub mod Reading
pub mod Names
pub mod Settled
