pub mod AlgebraExamples
pub mod DifferenceExamples
pub mod LeastExamples
mod BeyondExamples
mod CommonExamples
pub mod TreeExamples
