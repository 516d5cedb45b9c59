pub mod OverrideExamples
