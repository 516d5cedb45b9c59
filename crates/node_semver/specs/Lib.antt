-- The definitions that the contracts of this crate use beside those of the crates below, in reading order. These files
-- are what a reader has to trust.

-- ---- handed on from the crates below
pub mod Cuts
pub mod Versions
pub mod Errors
pub mod Ranges
-- ---- ranges: the least and the greatest version, and set algebra
pub mod Least
pub mod Greatest
pub mod AllOf
pub mod RangeAlgebra
-- ---- trees of ranges
pub mod SetTree
-- ---- the result of reading a range text
pub mod RangeAnswer
-- ---- not part of any public contract: what private functions compute, and lemmas
pub mod Private
pub mod Lemmas
