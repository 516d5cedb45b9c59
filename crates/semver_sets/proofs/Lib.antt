-- Lemmas, by subject. Each subject has a list of its files in reading order. The other
-- folders hold the proofs of functions, by module.
-- ---- texts: where a word can end, and lines that are written
pub mod Texts
-- ---- words of a range text: partials, kinds of word, and their comparators
pub mod Words
-- ---- range texts: alternatives, division, meaning
pub mod Ranges
-- ---- sets: merging, triples that are opened, search
pub mod Sets
-- ---- prints, and reading them back
pub mod Prints
-- ---- worked examples, which compute, and the functions that compute them
pub mod Examples
