pub mod OutdatedExamples
pub mod MirrorExamples
pub mod FileExamples
