-- Lemmas about single functions, and worked examples. The lemmas that other crates cite are in `specs/Lemmas`. The
-- other
-- folders hold the proofs of functions, by module.
pub mod NumberFirst
-- ---- worked examples, which compute
pub mod Examples
