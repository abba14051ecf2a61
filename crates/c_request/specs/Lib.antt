pub mod Request
pub mod Internal
