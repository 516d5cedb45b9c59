pub mod PairExamples
pub mod PrintedExamples
pub mod ReportExamples
pub mod SetExamples
