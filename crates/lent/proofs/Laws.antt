pub mod OverAt
pub mod Stretch
