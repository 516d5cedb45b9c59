-- The sets of an intersection and of a difference satisfy what every range satisfies.
use native.Mathlib.Omega.{arith}
use Rattle.std.proofs.Common.{◌≡◌, ◌↔◌, List, [], ◌∷◌, Option, Some, None, refl, inl}
use Rattle.std.specs.Prelude.{IfSome, IsNone, IsSome}
use Rattle.std.specs.List.{AllByRecursion}
use Rattle.semver_cuts.specs.declared.cut.Cut.{Cut}
use Rattle.semver_cuts.specs.Ends.{Ends, HoldsCut}
use Rattle.semver_cuts.specs.SpanLists.{IsInSome}
use Rattle.semver_cuts.specs.CommonSpans.{common_spans}
use Rattle.semver_cuts.specs.Difference.{AreDifference}
use Rattle.semver_cuts.specs.Lemmas.CommonSpans.{common_spans-ends, common_spans-hold}
use Rattle.semver_cuts.specs.Lemmas.Difference.{difference-ends, difference-hold}
use Rattle.semver_texts.specs.Comparison.{version_cmp}
use Rattle.semver_texts.specs.Lemmas.Public.{version_total}
use Rattle.semver_sets.specs.RangeSets.{IsRangeCut, IsRangeSet, IsRangeValue}
use Rattle.semver_texts.specs.Version.{VersionValue}
use Rattle.node_semver.specs.RangeAlgebra.{sets_of_answer}

-- ---- the sets

-- both ends of a set are ends that a range can have
HasReadEnds : Ends VersionValue → Type 0
HasReadEnds set = IsRangeCut set.lower × IsRangeCut set.upper

ends-read : (sets : List (Ends VersionValue)) → AllByRecursion IsRangeSet sets → AllByRecursion HasReadEnds sets
unfolding HasReadEnds
ends-read [] all = tt
ends-read (set ∷ sets) all = ((all.0.lower, all.0.upper), ends-read sets all.1)

sets-held : (sets : List (Ends VersionValue)) → AllByRecursion (HoldsCut version_cmp) sets
    → AllByRecursion HasReadEnds sets → AllByRecursion IsRangeSet sets
unfolding HasReadEnds
sets-held [] held read = tt
sets-held (set ∷ sets) held read = grind (arith, sets-held sets held.1 read.1)

-- the sets of an intersection are such as a range can have
pub common-bounded : (ones others : List (Ends VersionValue)) → AllByRecursion IsRangeSet ones
    → AllByRecursion IsRangeSet others → AllByRecursion IsRangeSet (common_spans version_cmp ones others)
unfolding HasReadEnds
common-bounded ones others all all' =
    sets-held (common_spans version_cmp ones others) (common_spans-hold version_total ones others)
    (common_spans-ends version_total IsRangeCut IsRangeCut ones others (ends-read ones all) (ends-read others all'))

-- and so are those of a difference
pub difference-bounded : (ones others spans : List (Ends VersionValue)) → AreDifference version_cmp ones others spans
    → AllByRecursion IsRangeSet ones → AllByRecursion IsRangeSet others → AllByRecursion IsRangeSet spans
unfolding HasReadEnds
difference-bounded ones others spans are all all' =
    sets-held spans (difference-hold version_cmp ones others spans are)
    (difference-ends version_cmp IsRangeCut IsRangeCut ones others spans (ends-read ones all) (ends-read others all')
    are)

-- ---- where there is no range

-- a range has a cut
some-cut : (sets : List (Ends VersionValue)) → IsRangeValue sets
    → (cut : Cut VersionValue) × IsInSome version_cmp sets cut
some-cut [] is = absurd (is.some refl)
some-cut (set ∷ sets) is = let held = is.each.0.holds in (held.0, inl held.1)

-- a result is `None` exactly where it has no set
pub none-listed : (answer : Option (List (Ends VersionValue))) → IfSome answer IsRangeValue
    → IsNone answer ↔ (sets_of_answer answer ≡ [])
none-listed answer h1 = grind arith

-- so a result is `None` exactly where it would have no cut
pub none-exactly : (answer : Option (List (Ends VersionValue))) (P : Cut VersionValue → Type 0)
    → IfSome answer IsRangeValue
    → ((cut : Cut VersionValue) → IsInSome version_cmp (sets_of_answer answer) cut ↔ P cut)
    → IsNone answer ↔ ((cut : Cut VersionValue) → ¬ P cut)
none-exactly None P holds same = (λ none cut p. (same cut).1 p, λ never. refl)
none-exactly (Some sets) P holds same = (
  λ none. cc none,
  λ never. let some = some-cut sets holds in absurd (never some.0 ((same some.0).0 some.1)),
)

-- and some where it has one
pub some-exactly : (answer : Option (List (Ends VersionValue))) (P : Cut VersionValue → Type 0)
    → IfSome answer IsRangeValue
    → ((cut : Cut VersionValue) → IsInSome version_cmp (sets_of_answer answer) cut ↔ P cut)
    → IsSome answer ↔ ((cut : Cut VersionValue) × P cut)
some-exactly answer P h1 h2 = grind (arith, some-cut)
