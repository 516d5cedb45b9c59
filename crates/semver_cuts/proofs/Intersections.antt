-- one span with spans that are apart
pub mod AscendingSpans
-- the first of such spans that ends above a cut
pub mod FirstAbove
