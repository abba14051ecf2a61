pub mod AccountName
pub mod Internal
