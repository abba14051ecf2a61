pub mod Mark
pub mod Refer
