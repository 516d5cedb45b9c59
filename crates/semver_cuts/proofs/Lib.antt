-- Lemmas, by subject. Each subject has a list of its files in reading order. The other folders hold the proofs of
-- functions, by module.
-- ---- the order of cuts
pub mod CutOrder
-- ---- lists and their elements
pub mod Lists
-- ---- a step of a loop along a list
pub mod LoopSteps
-- ---- joining the spans of a list: their order, the joined spans, their places and their number
pub mod Joining
-- ---- walks along the merged spans of two lists
pub mod Walks
-- ---- the intersection of two lists, along ascending spans
pub mod Intersections
-- ---- the difference of two lists: the pieces of each span
pub mod Differences
-- ---- worked examples, which compute
mod Examples
