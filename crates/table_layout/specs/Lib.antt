pub mod Field
pub mod Layout
pub mod Internal
