pub mod Whole
pub mod Judgement
pub mod Internal
