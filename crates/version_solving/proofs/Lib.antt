pub mod OpenDemands
pub mod Choices
pub mod Entries
pub mod Marks
pub mod Ruling
pub mod Replaying
pub mod Examples
pub mod Missed
pub mod FittingTables
mod Places
mod Grown
mod TurnedProblems
mod TurnedDocuments
pub mod Sound
pub mod ReasonExamples
