-- Lemmas, by subject. Each subject has a list of its files in reading order. The other folders hold the proofs of
-- functions, by module. Lemmas of texts, words and merging are in `semver_sets`.
-- ---- range texts: parsing
pub mod Ranges
-- ---- sets: set algebra, trees
pub mod Sets
-- ---- the least version of a range, the least beyond another, and the greatest of a list
pub mod Least
-- ---- worked examples, which compute
pub mod Examples
-- ---- a count that only proofs read
pub mod EmptyStruct
