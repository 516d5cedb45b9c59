pub mod CandidateExamples
pub mod FlatLockExamples
