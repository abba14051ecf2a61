pub mod Neighbours
pub mod Permuted
