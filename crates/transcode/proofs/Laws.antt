pub mod Utf8Back
pub mod Utf16Octets
pub mod Length
pub mod Zeros
pub mod Texts
pub mod Point16
