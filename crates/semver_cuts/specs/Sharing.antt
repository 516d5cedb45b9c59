-- Whether two lists of spans share a cut, and whether one contains all cuts of the other.
use Rattle.std.specs.Prelude.{List}
use Rattle.std.specs.declared.cmp.Ordering.{Ordering}
use Rattle.semver_cuts.specs.declared.cut.Cut.{Cut}
use Rattle.semver_cuts.specs.Ends.{Ends, IsInSpan}
pub use Rattle.semver_cuts.specs.SpanLists.{AnyByRecursion}
use Rattle.semver_cuts.specs.SpanLists.{IsInSome}

-- some cut lies in both spans: `Before 2` lies in 1 to 3 and in 2 to 4, and none in both 1 to 2 and 2 to 4
abbrev pub HaveCommonCut : {T : Type 0} → (T → T → Ordering) → Ends T → Ends T → Type 0
HaveCommonCut {T} cmp one other = (cut : Cut T) × IsInSpan cmp one cut × IsInSpan cmp other cut

-- some cut lies in a span of each of the two lists
abbrev pub ShareCut : {T : Type 0} → (T → T → Ordering) → List (Ends T) → List (Ends T) → Type 0
ShareCut {T} cmp ones others = (cut : Cut T) × IsInSome cmp ones cut × IsInSome cmp others cut

-- each cut in some span of the second list lies in some span of the first
abbrev pub CoversAll : {T : Type 0} → (T → T → Ordering) → List (Ends T) → List (Ends T) → Type 0
CoversAll {T} cmp ones others = (cut : Cut T) → IsInSome cmp others cut → IsInSome cmp ones cut
