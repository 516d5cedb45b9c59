pub mod SystemExamples
