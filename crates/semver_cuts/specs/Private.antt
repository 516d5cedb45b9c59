-- What private functions compute, in this crate and in those above it.

-- spans with their places, sorted by their lower ends and joined
pub mod Placed
-- where the spans that end above a cut begin
pub mod FirstAbove
