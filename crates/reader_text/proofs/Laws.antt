pub mod Label
pub mod Text
