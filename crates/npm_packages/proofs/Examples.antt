pub mod LockExamples
pub mod FaultExamples
pub mod LinkedFolderExamples
pub mod OverrideExamples
