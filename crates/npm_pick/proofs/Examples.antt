pub mod RankExamples
pub mod PickExamples
