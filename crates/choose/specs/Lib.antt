pub mod Judge
pub mod Choose
pub mod ApplicationFlag
pub mod Internal
