pub mod FormExamples
pub mod OsvExamples
