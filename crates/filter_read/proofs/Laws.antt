pub mod Gather
pub mod Taken
pub mod Value
pub mod WrongValue
