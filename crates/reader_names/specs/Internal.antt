pub mod Look
pub mod Step
pub mod Walk
pub mod NameRead
pub mod NamesRead
