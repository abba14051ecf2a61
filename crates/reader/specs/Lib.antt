pub mod Field
pub mod Text
pub mod Name
pub mod Reader
pub mod ReaderWalks
pub mod Internal
