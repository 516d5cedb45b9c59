pub mod AllTexts
pub mod Answered
pub mod Best
pub mod Gathering
pub mod Increments
pub mod ReadTexts
pub mod Satisfying
