-- One comparator more, merged with those before it.
use native.Mathlib.Omega.{arith}
use Rattle.std.proofs.Common.{◌≡◌, Bool, true, false, List, [], ◌∷◌, ◌++◌, Option}
use Rattle.std.proofs.lemmas.List.{append-nil}
use Rattle.semver_cuts.specs.declared.cut.Cut.{Cut}
use Rattle.semver_cuts.specs.declared.cut.Cut.TheVariants.{Start, End}
use Rattle.semver_cuts.specs.Ends.{span_between}
use Rattle.semver_cuts.specs.KeptEnds.{IsEarlierLeast, IsLaterGreatest}
use Rattle.semver_sets.specs.Comparator.{Comparator}
use Rattle.semver_texts.specs.Comparison.{version_cmp}
use Rattle.semver_sets.specs.Merging.{IsCommonSpan, IsNarrowedTo, IsSetOf}
use Rattle.semver_sets.specs.Private.RangeViews.{common_seen}
use Rattle.semver_texts.specs.Version.{VersionValue}
use Rattle.semver_sets.specs.Lemmas.Merging.{set-one, set-push}

-- one comparator more than those that are merged so far, which may be none
pub merged-push : (found : Bool) (lower upper greatest least : Cut VersionValue) (later : Comparator)
    → (found ≡ false → (lower ≡ Start) × (upper ≡ End)) → IsLaterGreatest version_cmp lower later.lower greatest
    → IsEarlierLeast version_cmp upper later.upper least → (comparators : List Comparator)
    → IsCommonSpan comparators (common_seen found lower upper)
    → IsSetOf (comparators ++ later ∷ []) (span_between greatest least)
merged-push true lower upper greatest least later all l u comparators merged =
    set-push comparators (span_between lower upper) later (span_between greatest least) merged l u
merged-push false lower upper greatest least later all l u comparators merged = grind (arith, set-one)

-- the same for a comparator with these ends
pub narrowed : (before after : Option Comparator) (low high : Cut VersionValue) (c : Comparator) → low ≡ c.lower
    → high ≡ c.upper → IsNarrowedTo before (span_between low high) after → IsNarrowedTo before c after
narrowed before after low high c h1 h2 h3 = grind arith

pub merged-none : (comparators : List Comparator) (common : Option Comparator) → IsCommonSpan comparators common
    → IsCommonSpan (comparators ++ []) common
merged-none comparators common merged = grind (arith, append-nil)
