pub mod LastPlan
pub mod Slots
