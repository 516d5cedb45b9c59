pub mod FullPartial
pub mod UnpaddedNumbers
pub mod FullDivision
pub mod FullMeaning
