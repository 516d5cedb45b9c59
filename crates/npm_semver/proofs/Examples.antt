mod StrictExamples
pub mod CoerceExamples
mod PrereleaseExamples
mod BumpExamples
mod DifferenceExamples
mod NpmAnswerExamples
