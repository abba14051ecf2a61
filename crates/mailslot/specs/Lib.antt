pub mod Message
pub mod Read
pub mod Longest
pub mod Internal
