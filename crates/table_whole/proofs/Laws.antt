pub mod Judgement
pub mod Half
