pub mod Codec
pub mod Utf8
pub mod Utf16
pub mod Writing
pub mod OneText
pub mod UserName
pub mod Point
