pub mod Transcode
pub mod Internal
