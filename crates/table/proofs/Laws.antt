pub mod Field
pub mod Format
pub mod Table
pub mod Walks
