pub mod WordExamples
pub mod RangeComputing
pub mod RangeExamples
pub mod SetComputing
pub mod SetExamples
pub mod LimitExamples
mod SearchExamples
mod CharacterExamples
