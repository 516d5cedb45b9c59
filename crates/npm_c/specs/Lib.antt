-- What the contract of the export says: all of it that is trusted.
-- `npm_call` promises `IsAnswered`.
pub mod Answer  -- what C gets
