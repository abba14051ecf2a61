pub mod ReadBack
pub mod Endings
pub mod Least
pub mod Shortest
