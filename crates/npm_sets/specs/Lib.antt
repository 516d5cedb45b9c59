-- The definitions for npm's own reading of range texts, in reading order. These files are what a reader has to trust,
-- beside those of `semver_sets` that they use.

-- ---- white space outside ASCII
pub mod Spaces
-- ---- how a text is divided: pieces, words, and the partial of a word
pub mod WordTexts
pub mod PartialTexts
-- ---- the rows: which comparator a word or a hyphen range gives
pub mod Rows
-- ---- the alternatives of a text, and which versions it admits
pub mod NpmMeaning
-- ---- the grammar of partials, their limits, and that the same texts are read
pub mod PartialGrammar
pub mod PartialLimits
pub mod PartialLaws
-- ---- where a text is refused
pub mod RefusedPlace
pub mod NpmAnswer
pub mod FullTexts
-- ---- which prints of ranges are read back
pub mod NpmReadingBack
-- ---- not part of any public contract of `node_semver`: what private functions compute
pub mod Private
