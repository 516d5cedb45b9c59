-- The definitions that the contracts of this crate use, in reading order. These files are what a reader has to trust.

-- ---- byte lists: their order, and which lie between two others
pub mod KeyOrder
-- ---- the keys of numbers, identifiers, versions and cuts
pub mod NumberKey
pub mod IdentifierKey
pub mod VersionKey
pub mod CutKey
-- ---- the version that bytes are the key of
pub mod VersionOfKey
-- ---- the intervals of a range
pub mod Intervals
-- ---- not part of any public contract: what private functions compute, and lemmas
pub mod Private
pub mod Lemmas
