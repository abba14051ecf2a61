pub mod Message
pub mod Internal
