pub mod DependencyExamples
pub mod TreeExamples
