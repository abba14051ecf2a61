pub mod Utf8
pub mod Utf16
pub mod UserName
pub mod Internal
