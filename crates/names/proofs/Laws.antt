pub mod Name
pub mod Plan
pub mod Walk
