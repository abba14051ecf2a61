pub mod NearestSubnet
pub mod ClosingDot
pub mod OnlyAccount
pub mod Nearest
pub mod ClientSite
