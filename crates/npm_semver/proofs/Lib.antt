-- Lemmas about single functions, and worked examples. The other folders hold the proofs of functions, by module.
-- ---- raised versions, and the version that is found in a text
pub mod Versions
-- ---- worked examples, which compute
pub mod Examples
