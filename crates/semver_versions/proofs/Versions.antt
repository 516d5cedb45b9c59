pub mod VersionAnswers
pub mod VersionParse
