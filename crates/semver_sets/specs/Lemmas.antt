pub mod Bounds
pub mod Comparators
pub mod Convex
pub mod Merging
pub mod RangeHash
-- ---- definitions that compute, for worked examples
pub mod Deciding
