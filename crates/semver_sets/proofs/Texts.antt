pub mod CleanEnds
pub mod LineText
