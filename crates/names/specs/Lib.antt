pub mod Internal
pub mod Name
pub mod Walk
pub mod WalkRelation
