mod OrderExamples
pub mod ErrorExamples
pub mod FaultExamples
