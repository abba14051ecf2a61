pub mod ClauseNames
