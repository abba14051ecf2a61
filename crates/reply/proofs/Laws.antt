pub mod Plan
pub mod Reply
