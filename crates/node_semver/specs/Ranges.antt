-- What contracts say about range texts and their sets: defined in `semver_sets`, and handed on.
pub use Rattle.semver_sets.specs.Comparator.{Comparator, at_least, above, at_most, below, exactly, from_up_to}
pub use Rattle.semver_sets.specs.Comparator.{with_major, with_minor}
pub use Rattle.semver_sets.specs.Meaning.{Admit, AnyByRecursion, GiveSet, HasOpenEnd, IsInside, IsRefused, Opens}
pub use Rattle.semver_sets.specs.Meaning.{RangeAdmits, RangeContains, SetAdmits, TextAdmits}
pub use Rattle.semver_sets.specs.Merging.{AreSetsOfText, all_cuts}
pub use Rattle.semver_sets.specs.RangeEquality.{AreSameCuts, are_same_cuts}
pub use Rattle.semver_sets.specs.RangePrint.{range_text}
pub use Rattle.semver_sets.specs.RangeSets.{IsRangeEnd, IsRangeCut, IsRangeSet, IsRangeValue, sets_seen}
pub use Rattle.semver_sets.specs.ReadingBack.{IsPlainlyBounded, RangeReadsBack}
pub use Rattle.semver_sets.specs.Union.{AreJoinable, joined_text}
pub use Rattle.semver_sets.specs.RangeHash.{range_writes}
pub use Rattle.semver_sets.specs.Searching.{IsShortSearch, IsShortSearchInside}
