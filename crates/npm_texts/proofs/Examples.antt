pub mod InstalledExamples
pub mod GrammarExamples
