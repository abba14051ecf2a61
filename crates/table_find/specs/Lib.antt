pub mod Find
pub mod LogOn
pub mod Internal
