pub mod Point16
pub mod Text8
