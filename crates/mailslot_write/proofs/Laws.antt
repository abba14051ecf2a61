pub mod Size
pub mod Put
pub mod Write
pub mod Text16
pub mod RoundTrip
