pub mod BlockAt
pub mod RecordAt
