pub mod RangeEquality
pub mod RangePrint
-- ---- the greatest and the least of a list, for node_semver_c too
pub mod GreatestViews
pub mod GreatestLemmas
