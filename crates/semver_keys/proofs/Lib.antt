-- Lemmas about single functions, and worked examples.
pub mod Growing
pub mod NumberSteps
pub mod IdentifierSteps
pub mod KeyLengths
pub mod NumberRules
pub mod IdentifierRules
pub mod VersionSteps
pub mod Prereleases
pub mod SpanKeys
pub mod OpenedSteps
pub mod OpenedRules
pub mod FewIntervals
pub mod Parted
pub mod NumberReading
pub mod TextReading
pub mod IdentifierReading
pub mod VersionReading
-- ---- worked examples, which compute
pub mod Examples
