-- The definitions that contracts use for versions: which text is faulty where, the order with builds, and what calls
-- return. In reading order. These files are what a reader has to trust, after those of `semver_texts`.

-- ---- errors, and the fault of a text that is no version text
pub mod Error
pub mod Fault
-- ---- versions: the least one and the next; the order with builds
pub mod VersionSteps
pub mod BuildOrder
-- ---- JSON strings
pub mod Json
-- ---- errors: their line and column, their parts, and how they are printed
pub mod ErrorLocation
pub mod ErrorParts
pub mod ErrorText
pub mod ErrorEquality
pub mod VersionFault
-- ---- laws over texts alone
pub mod VersionLaws
-- ---- not to be trusted: what private functions compute, and lemmas
-- `Lemmas/Public` lists the lemmas that the crates above cite.
pub mod Private
pub mod Lemmas
