pub mod NameOrder
pub mod Ordering
