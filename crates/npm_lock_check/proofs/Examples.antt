pub mod InputExamples
pub mod LinkedExamples
pub mod MismatchExamples
