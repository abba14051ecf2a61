pub mod Ping
