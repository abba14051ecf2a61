pub mod ClausesRead
pub mod RawPing
pub mod WrongValue
