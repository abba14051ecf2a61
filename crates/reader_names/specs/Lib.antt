pub mod Name
pub mod Internal
