pub mod TextCuts
pub mod RangeEquality
pub mod RangeAlgebra
pub mod AlgebraBounds
pub mod TreeSets
pub mod TreeAnswers
pub mod DifferenceUnique
pub mod TreeUnique
