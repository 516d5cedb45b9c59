-- The definitions that contracts use for texts of versions and of ranges: characters, numbers, identifiers, and what a
-- version is. In reading order. These files are what a reader has to trust.

-- ---- characters, numbers and identifiers, as they are written
pub mod Characters
pub mod NumberText
pub mod IdentifierValue
pub mod IdentifierText
-- ---- versions as values: their text, order, print and hash
pub mod Version
pub mod Triple
pub mod VersionText
pub mod Order
pub mod Comparison
pub mod Print
pub mod Hash
-- ---- what a text begins with: npm's own reading of range texts rests on it
pub mod Reading
-- ---- prints that are read again
pub mod ReadingBack
-- ---- how a contract sees values of the program
pub mod Identifier
pub mod IdentifierRef
pub mod EndViews
-- ---- not to be trusted: what private functions compute, and lemmas
-- `Lemmas/Public` lists the lemmas that the crates above cite; `semver_versions` may cite all.
pub mod Private
pub mod Lemmas
