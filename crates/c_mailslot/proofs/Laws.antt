pub mod Wide
pub mod Message
