pub mod CountedExamples
pub mod ExceptedExamples
pub mod OmissionExamples
pub mod ReadingExamples
