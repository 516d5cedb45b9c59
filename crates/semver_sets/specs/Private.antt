-- What private functions compute, in this crate and in those above it.

-- how words, alternatives and sets are read
pub mod WordReading
pub mod WordViews
pub mod PieceReading
pub mod RangeViews
-- how a version is found among sets
pub mod SearchViews
