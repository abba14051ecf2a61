pub mod Field
pub mod Rule
