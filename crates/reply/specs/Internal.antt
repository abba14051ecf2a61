pub mod Plan
pub mod RawReply
