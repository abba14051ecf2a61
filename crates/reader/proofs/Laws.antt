pub mod Field
pub mod Name
pub mod Reader
pub mod Text
