-- Lemmas, by subject. The other folders hold the proofs of functions, by module.
pub mod Chunks
pub mod Partials
pub mod Pieces
pub mod PlainSpaces
pub mod Full
pub mod Places
pub mod Prints
-- ---- worked examples, which compute
pub mod Examples
