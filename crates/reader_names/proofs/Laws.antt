pub mod Look
pub mod Step
pub mod Label
pub mod NameRead
pub mod NamesRead
