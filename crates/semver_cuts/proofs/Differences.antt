-- spans that are apart are the greatest ones of their cuts
pub mod GreatestSpans
-- the pieces of a span along spans that are apart
pub mod PiecesAlong
-- these are all pieces of the span
pub mod PiecesFound
