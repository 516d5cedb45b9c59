-- The print of a range is read back as an equal range.
pub mod PrintedPartials
pub mod PrintedTexts
pub mod PrintedWords
pub mod PrintedSets
pub mod PrintedRanges
