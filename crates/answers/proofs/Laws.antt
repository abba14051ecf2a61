pub mod Retired
pub mod Try
pub mod Written
