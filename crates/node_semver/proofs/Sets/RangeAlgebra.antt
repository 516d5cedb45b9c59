-- Intersection and difference of ranges: which cuts their sets have, and which versions they admit.
use native.Mathlib.Omega.{arith}
use Rattle.std.proofs.Common.{if◌then◌else◌, ◌≡◌, ◌↔◌, Bool, List, [], ◌∷◌, refl}
use Rattle.std.specs.Ordering.{is_lt}
use Rattle.semver_cuts.specs.declared.cut.Cut.{Cut}
use Rattle.semver_cuts.specs.declared.cut.Cut.TheVariants.{Before}
use Rattle.semver_cuts.specs.Cut.{cut_cmp}
use Rattle.semver_cuts.specs.Ends.{Ends}
use Rattle.semver_cuts.specs.SpanLists.{IsInSome}
use Rattle.semver_cuts.specs.CommonSpans.{common_ends, common_spans}
use Rattle.semver_cuts.specs.KeptEnds.{IsEarlierLeast, IsLaterGreatest}
use Rattle.semver_cuts.specs.Lemmas.Ends.{at_most-from_not_lt, below-from_lt}
use Rattle.semver_cuts.specs.Sharing.{HaveCommonCut}
use Rattle.semver_cuts.specs.Lemmas.CommonSpans.{common_spans-cuts, common_spans-some}
use Rattle.semver_cuts.specs.Difference.{AreDifference}
use Rattle.semver_cuts.specs.Lemmas.Difference.{difference-cuts}
use Rattle.semver_cuts.specs.Lemmas.Lists.{any-map}
use Rattle.semver_texts.specs.Comparison.{version_cmp}
use Rattle.semver_texts.specs.Lemmas.Public.{version_total}
use Rattle.semver_sets.specs.Meaning.{Admit, AnyByRecursion, RangeAdmits, SetAdmits}
use Rattle.semver_sets.specs.Merging.{IsSetOf}
use Rattle.semver_texts.specs.Version.{IsPrerelease, VersionValue}
use Rattle.semver_sets.specs.Lemmas.Merging.{merged-admits, set-one, set-push}
use Rattle.node_semver.specs.RangeAlgebra.{PairAdmits}

-- ---- releases

-- a range admits a release where the cut before it lies in one of the sets
pub release-admitted : (sets : List (Ends VersionValue)) (v : VersionValue) → ¬ IsPrerelease v
    → RangeAdmits sets v ↔ IsInSome version_cmp sets (Before v)
release-admitted [] v release = (λ admits. admits, λ some. some)
release-admitted (set ∷ sets) v release = grind (arith, release-admitted sets v release)

-- ---- the intersection of two sets is their merging

greater-by : (one other : Cut VersionValue) (r : Bool) → is_lt (cut_cmp version_cmp other one) ≡ r
    → IsLaterGreatest version_cmp one other (if r then one else other)
greater-by one other r h1 = grind (arith, below-from_lt, at_most-from_not_lt, version_total)

lesser-by : (one other : Cut VersionValue) (r : Bool) → is_lt (cut_cmp version_cmp other one) ≡ r
    → IsEarlierLeast version_cmp one other (if r then other else one)
lesser-by one other r h1 = grind (arith, below-from_lt, at_most-from_not_lt, version_total)

pair-merged : (one other : Ends VersionValue) → IsSetOf (one ∷ other ∷ []) (common_ends version_cmp one other)
pair-merged one other = grind (
  arith,
  set-push (one ∷ []) one other (common_ends version_cmp one other) (set-one one)
      (greater-by one.lower other.lower (is_lt (cut_cmp version_cmp other.lower one.lower)) refl)
      (lesser-by one.upper other.upper (is_lt (cut_cmp version_cmp other.upper one.upper)) refl),
)

-- so it admits a version that both together admit
module _ (v : VersionValue) where
  pair-admits : (one other : Ends VersionValue)
      → Admit (one ∷ other ∷ []) v ↔ SetAdmits (common_ends version_cmp one other) v
  pair-admits one other = merged-admits (one ∷ other ∷ []) (common_ends version_cmp one other) (pair-merged one other) v

  -- the common sets of two ranges admit what a set of one and a set of the other do together
  pub common-admits : (ones others : List (Ends VersionValue))
      → RangeAdmits (common_spans version_cmp ones others) v ↔ PairAdmits ones others v
  common-admits ones others =
      let Admits : Ends VersionValue → Type 0 = λ set. SetAdmits set v in
      let Together : Ends VersionValue → Ends VersionValue → Type 0 = λ one other. Admit (one ∷ other ∷ []) v in
      let Shares : Ends VersionValue → Ends VersionValue → Type 0 =
      λ one other. HaveCommonCut version_cmp one other × Admits (common_ends version_cmp one other) in
      let some = common_spans-some version_total Admits ones others in grind (arith, any-map, pair-admits)

-- and a release exactly where both do
pub common-releases : (ones others : List (Ends VersionValue)) (v : VersionValue) → ¬ IsPrerelease v
    → RangeAdmits (common_spans version_cmp ones others) v ↔ (RangeAdmits ones v × RangeAdmits others v)
common-releases ones others v release = grind (
  arith,
  release-admitted (common_spans version_cmp ones others) v release,
  release-admitted ones v release,
  release-admitted others v release,
  common_spans-cuts version_total ones others
      (Before v),
)

-- a difference admits a release exactly where the first range does and the second does not
pub difference-releases : (ones others spans : List (Ends VersionValue)) → AreDifference version_cmp ones others spans
    → (v : VersionValue) → ¬ IsPrerelease v → RangeAdmits spans v ↔ (RangeAdmits ones v × (¬ RangeAdmits others v))
difference-releases ones others spans are v release =
    grind (
      arith,
      release-admitted spans v release,
      release-admitted ones v release,
      release-admitted others v release,
      difference-cuts version_cmp ones others spans are (Before v),
    )
