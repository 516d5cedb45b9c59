pub mod BareTexts
-- ---- specs: their grammar, and the functions that give the same
pub mod Specs
-- ---- worked examples, which compute
pub mod Examples
