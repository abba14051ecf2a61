pub mod NextSite
