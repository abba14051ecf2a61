pub mod Refusal
pub mod Retired
pub mod Try
pub mod Wire
pub mod Written
