pub mod StatusExamples
