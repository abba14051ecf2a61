pub mod Filter
pub mod Internal
