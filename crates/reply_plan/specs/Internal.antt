pub mod LastPlan
