pub mod Record
pub mod Search
pub mod Nearest
