pub mod Ping
pub mod Answer
pub mod Internal
