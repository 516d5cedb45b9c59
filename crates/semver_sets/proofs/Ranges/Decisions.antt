-- What a range text means is decided: it is refused or not, and admits a version or not.
use native.Mathlib.Omega.{arith}
use Rattle.std.proofs.Common.{◌≡◌, ◌≢◌, ◌⊎◌, ℕ, List, [], ◌∷◌, true, inl, inr, refl}
use Rattle.std.specs.List.{AllByRecursion}
use Rattle.std.specs.Ordering.{is_lt}
use Rattle.std.proofs.lemmas.Bool.{cases_Bool}
use Rattle.semver_cuts.specs.Cut.{cut_cmp}
use Rattle.semver_cuts.specs.Ends.{Ends, HoldsCut}
use Rattle.semver_cuts.specs.Lemmas.Ends.{below-from_lt, lt-from_below}
use Rattle.semver_cuts.specs.Lemmas.TwoSpans.{holds-below}
use Rattle.semver_sets.specs.Comparator.{Comparator}
use Rattle.semver_texts.specs.Comparison.{version_cmp}
use Rattle.semver_texts.specs.Lemmas.Public.{version_total}
use Rattle.semver_sets.specs.Meaning.{GiveSet, IsRefused, TextAdmits}
use Rattle.semver_texts.specs.Version.{VersionValue}
use Rattle.semver_sets.proofs.Ranges.AlternativeLemmas.{written-exists}
use Rattle.semver_sets.proofs.Ranges.MeaningLemmas.{refused-from_none, none-from_refused}
use Rattle.semver_sets.specs.Lemmas.Merging.{merged-gives, one-set}
use Rattle.semver_sets.proofs.Examples.RangeComputing.{admits-by, some_admits, turns_away-by}

-- a statement or its negation holds
abbrev pub Decided : Type 0 → Type 0
Decided P = P ⊎ (¬ P)

-- a span holds a cut or none
holds_or_not : (span : Ends VersionValue) → Decided (HoldsCut version_cmp span)
holds_or_not span =
    let same = holds-below version_total span in
    elim (cases_Bool (is_lt (cut_cmp version_cmp span.lower span.upper))) [
      | inl passes ↦ inl (same.1 (below-from_lt version_cmp span.lower span.upper passes))
      | inr fails ↦ inr (λ holds. let passes : is_lt (cut_cmp version_cmp span.lower span.upper) ≡ true =
          lt-from_below version_cmp span.lower span.upper (same.0 holds) in
          cc (passes, fails))
    ]

-- comparators give a set or none
gives_or_not : (comparators : List Comparator) → Decided (GiveSet comparators)
gives_or_not [] = inr (λ gives. gives.some refl)
gives_or_not (c ∷ comparators) =
    let some : (c ∷ comparators) ≢ [] = λ e. cc e in
    let merged = one-set (c ∷ comparators) some in
    let same = merged-gives (c ∷ comparators) merged.0 merged.1 in
    elim (holds_or_not merged.0) [ inl passes ↦ inl (same.1 passes) | inr fails ↦ inr (λ gives. fails (same.0 gives)) ]

-- no alternative gives a set, or not so
none_or_some : (alternatives : List (List Comparator))
    → Decided (AllByRecursion (λ comparators. ¬ GiveSet comparators) alternatives)
none_or_some [] = inl tt
none_or_some (comparators ∷ alternatives) = grind (arith, gives_or_not comparators, none_or_some alternatives)

-- a text is refused or not
pub refused_or_not : (text : List ℕ) → Decided (IsRefused text)
refused_or_not text =
    let written = written-exists text in
    elim (none_or_some written.0) [
      | inl none ↦ inl (refused-from_none text written.0 written.1 none)
      | inr some ↦ inr (λ refused. some (none-from_refused text written.0 written.1 refused))
    ]

-- a text admits a version or not
pub admits_or_not : (text : List ℕ) (v : VersionValue) → Decided (TextAdmits text v)
admits_or_not text v =
    let written = written-exists text in
    elim (cases_Bool (some_admits written.0 v)) [
      | inl passes ↦ inl (admits-by text written.0 v written.1 passes)
      | inr fails ↦ inr (turns_away-by text written.0 v written.1 fails)
    ]
