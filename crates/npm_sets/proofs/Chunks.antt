pub mod ChunkLemmas
pub mod SideLemmas
pub mod Borders
pub mod Joins
pub mod WordParts
