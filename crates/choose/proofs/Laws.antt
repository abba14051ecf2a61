pub mod ApplicationFlag
pub mod Choose
pub mod Flags
