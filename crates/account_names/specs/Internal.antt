pub mod Ordering
pub mod NameOrder
