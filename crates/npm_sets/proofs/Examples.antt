pub mod NpmExamples
pub mod SpaceExamples
pub mod PlaceExamples
pub mod PartialExamples
pub mod LimitExamples
pub mod ReadingBackExamples
