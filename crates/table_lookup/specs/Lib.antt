pub mod Lookup
pub mod ClosingDot
pub mod NearestSubnet
pub mod OnlyAccount
