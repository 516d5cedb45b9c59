-- What private functions compute, and how their contracts see it. No other crate names these, and nobody has to trust
-- them.
pub mod StrictViews
pub mod PieceViews
pub mod ExtraViews
