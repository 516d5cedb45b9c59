pub mod RangeAnswers
pub mod Contained
