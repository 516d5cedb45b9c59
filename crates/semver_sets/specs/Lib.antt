-- The definitions that the contracts of `node_semver` and of this crate use for range texts, words and sets, in reading
-- order. These files are what a reader has to trust.

-- ---- words, and the comparators that they give
pub mod Comparator
pub mod PartialText
pub mod Operators
pub mod TildeRanges
pub mod CaretRanges
pub mod HyphenRanges
pub mod WordEnds
-- ---- range texts: their alternatives, their meaning, the sets that they are merged to, and how two texts are joined
pub mod Division
pub mod Meaning
pub mod Merging
pub mod Union
pub mod FullTexts
-- ---- sets: their form, how a version is found in them, how they are printed, and when they are equal
pub mod RangeSets
pub mod Searching
pub mod RangePrint
pub mod RangeEquality
pub mod RangeHash
-- ---- prints that are read again, and laws over texts alone
pub mod ReadingBack
pub mod RangeLaws
-- ---- not part of any public contract of `node_semver`: what private functions compute, and lemmas
pub mod Private
pub mod Lemmas
