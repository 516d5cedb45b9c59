-- Worked examples over numbers, which compute: each shows what a definition says.
mod TieExamples
mod ListExamples
