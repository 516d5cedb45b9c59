-- The definitions that the contracts of this crate use beside those of the crates below, in reading order. These files
-- are what a reader has to trust.

-- ---- npm's own reading of a range text, handed on from `npm_sets`, and its result
pub mod NpmRanges
pub mod NpmRangeAnswer
-- ---- strict version texts, and the fault of a text that is none
pub mod StrictVersionText
pub mod StrictLaws
-- ---- the identifier of a whole text
pub mod Identifiers
-- ---- raised versions, and by which bump two differ
pub mod Bump
pub mod BumpBetween
pub mod BumpLaws
-- ---- the version that is found in a text
pub mod Coerce
pub mod CoerceWithPrerelease
pub mod CoerceLaws
-- ---- not part of any public contract: what private functions compute
pub mod Private
