-- The sets of a text that is one word and no hyphen range: the set between the ends of its comparator.
use Rattle.std.proofs.Common.{◌≡◌, ℕ, List, [], ◌∷◌, refl, sym, subst}
use Rattle.semver_cuts.specs.Ends.{Ends, HoldsCut}
use Rattle.semver_cuts.specs.Lemmas.TwoSpans.{holds-below}
use Rattle.semver_sets.specs.Comparator.{Comparator}
use Rattle.semver_texts.specs.Comparison.{version_cmp}
use Rattle.semver_sets.specs.Division.{IsWritten}
use Rattle.semver_texts.specs.Lemmas.Public.{version_total}
use Rattle.semver_sets.specs.Meaning.{GiveSet}
use Rattle.semver_sets.specs.Merging.{AreSetsOfText, IsSetOf, none, one_more}
use Rattle.semver_texts.specs.Version.{VersionValue}
use Rattle.semver_sets.specs.RangeSets.{IsRangeValue}
use Rattle.semver_sets.specs.Lemmas.Merging.{set-one}
use Rattle.semver_sets.proofs.Ranges.RangeBounds.{text-bounded}
use Rattle.semver_sets.specs.Private.RangeViews.{IsOnlyComparator}

-- one comparator gives a set where a cut lies in it
one-gives : (c : Comparator) → HoldsCut version_cmp c → GiveSet (c ∷ [])
one-gives c h = record { some = λ e. cc e; common = (h.0, (h.1, tt)) }

-- the text is written as its one comparator
only-written : (text : List ℕ) (c : Comparator) → IsOnlyComparator text c → IsWritten text ((c ∷ []) ∷ [])
only-written text c only = record {
  pieces = text ∷ [];
  divided = (refl, only.no_bars);
  read = (only.alternative, tt);
}

-- the sets of a text with an only comparator: the one between its ends
pub only-between : (text : List ℕ) (c : Comparator) (set : Ends VersionValue) → IsOnlyComparator text c → set ≡ c
    → AreSetsOfText text (set ∷ [])
only-between text c set only is = record {
  alternatives = (c ∷ []) ∷ [];
  written = only-written text c only;
  merged = one_more (c ∷ []) [] set [] (one-gives c ((holds-below version_total c).1 only.below))
      (subst (λ (s : Ends VersionValue). IsSetOf (c ∷ []) s) (sym is) (set-one c)) none;
}

-- which a range can have
pub only-value : (text : List ℕ) (c : Comparator) → IsOnlyComparator text c → IsRangeValue (c ∷ [])
only-value text c only = text-bounded text (c ∷ []) (only-between text c c only refl) (λ e. cc e)
