-- The set of a common span: comparators share a cut exactly if it begins below where it ends.
use native.Mathlib.Omega.{arith}
use Rattle.std.proofs.Common.{◌≡◌, ◌∙◌, Bool, false, true, Option, None, Some, Less, sym}
use Rattle.std.specs.Ordering.{is_lt}
use Rattle.std.specs.declared.cmp.Ordering.{Ordering}
use Rattle.semver_cuts.specs.Cut.{cut_cmp}
use Rattle.semver_cuts.specs.declared.cut.Cut.{Cut}
use Rattle.semver_cuts.specs.Ends.{Ends, IsCutBelow, span_between}
use Rattle.semver_cuts.specs.Lemmas.TwoSpans.{holds-below}
use Rattle.semver_sets.specs.Comparator.{Comparator}
use Rattle.semver_texts.specs.Comparison.{version_cmp}
use Rattle.semver_texts.specs.Lemmas.Public.{version_total}
use Rattle.semver_sets.specs.Private.RangeViews.{IsSpanOf, common_seen}
use Rattle.semver_texts.specs.Version.{VersionValue}

lt-less : (o : Ordering) → is_lt o ≡ true → o ≡ Less
lt-less o h1 = grind arith

-- the comparison of the ends
pub ends-below : (lower upper : Cut VersionValue) (r : Bool) → r ≡ is_lt (cut_cmp version_cmp lower upper) → r ≡ true
    → IsCutBelow version_cmp lower upper
ends-below lower upper r told is = lt-less _ (sym told ∙ is)

-- where they are in order, the set
pub some-set : (found : Bool) (lower upper : Cut VersionValue) (seen : Option Comparator) (span : Ends VersionValue)
    → found ≡ true → common_seen found lower upper ≡ seen → IsCutBelow version_cmp lower upper
    → span ≡ span_between lower upper → IsSpanOf seen (Some span)
some-set found lower upper seen span h1 h2 h3 h4 = grind (arith, holds-below version_total (span_between lower upper))

-- where they are not, or no comparator came, none
pub no-set : (found : Bool) (lower upper : Cut VersionValue) (seen : Option Comparator)
    → common_seen found lower upper ≡ seen → (found ≡ true → is_lt (cut_cmp version_cmp lower upper) ≡ false)
    → IsSpanOf seen None
no-set found lower upper seen h1 h2 = grind (arith, holds-below, version_total)
