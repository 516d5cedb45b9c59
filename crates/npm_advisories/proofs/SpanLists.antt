-- The spans of the versions that advisories are about, one after another, and of the releases that ranges do not admit.
use Rattle.std.proofs.Common.{◌≡◌, ◌↔◌, ◌<◌, ◌+◌, ◌≤◌, ℕ, List, [], ◌∷◌, ◌++◌, get_or, inl, inr, length, sym}
use Rattle.std.proofs.Common.{subst, take}
use Rattle.std.proofs.lemmas.List.{take_all, take_more}
use Rattle.std.specs.List.{AllByRecursion}
use Rattle.semver_cuts.specs.Ends.{Ends}
use Rattle.semver_cuts.specs.Lemmas.Lists.{any-either, any-left, any-right}
use Rattle.node_semver.specs.RangeAlgebra.{sets_of_answer}
use Rattle.node_semver.specs.Ranges.{IsInside, IsRangeSet, RangeAdmits, RangeContains}
use Rattle.node_semver.specs.Versions.{IsPrerelease, VersionValue}
use Rattle.npm_advisories.specs.Lemmas.Spans.{Have, have-more}
use Rattle.npm_advisories.specs.Private.Spans.{IsInRange}
use Rattle.npm_advisories.specs.declared.advisory.Advisory.{Advisory}
use Rattle.npm_advisories.proofs.Releases.{admitted-contained, contained-admitted, contains-or_not}

-- ---- the sets of advisories

abbrev In : Advisory → VersionValue → Type 0
In advisory v = RangeContains (sets_of_answer advisory.range) v

pub no-sets : Have [] (IsInRange [])
no-sets = record { each = tt; exact = λ v. (λ is. is, λ is. is) }

one-sets : (one : Advisory) (sets : List (Ends VersionValue)) → sets ≡ sets_of_answer one.range
    → AllByRecursion IsRangeSet sets → Have sets (IsInRange (one ∷ []))
one-sets one sets same holds = record {
  each = holds;
  exact = λ v. (
    λ contains. inl (subst (λ r. RangeContains r v) same contains),
    λ some. elim some [
      | inl here ↦ subst (λ r. RangeContains r v) (sym same) here
      | inr none ↦ absurd none
    ],
  );
}

-- those of one advisory more
pub next-sets : (advisories : List Advisory) (i : ℕ) (one : Advisory) (old sets new : List (Ends VersionValue))
    → i < length advisories → one ≡ get_or advisories i one → new ≡ old ++ sets → sets ≡ sets_of_answer one.range
    → AllByRecursion IsRangeSet sets → Have old (IsInRange (take i advisories))
    → Have new (IsInRange (take (i + 1) advisories))
next-sets advisories i one old sets new lt is e same holds had =
    rw (take_more advisories i one lt, ← is)
    (have-more In (take i advisories) (one ∷ []) old sets new e had (one-sets one sets same holds))

-- those of all
pub all-sets : (advisories : List Advisory) (i : ℕ) (sets : List (Ends VersionValue)) → length advisories ≤ i
    → Have sets (IsInRange (take i advisories)) → Have sets (IsInRange advisories)
all-sets advisories i sets done have =
    subst (λ l. Have sets (IsInRange l)) (take_all i advisories done) have

-- what a range does not admit is added: then a release outside is one that was outside and that the range admits
pub asked-outside : (Asked : VersionValue → Type 0) (old sets new range : List (Ends VersionValue)) → new ≡ old ++ sets
    → ((v : VersionValue) → ¬ IsPrerelease v → RangeContains sets v ↔ (¬ RangeAdmits range v))
    → ((v : VersionValue) → RangeAdmits range v ↔ Asked v)
    → (v : VersionValue) → ¬ IsPrerelease v → (¬ RangeContains new v) ↔ ((¬ RangeContains old v) × Asked v)
asked-outside Asked old sets new range e releases means v release = rw e (
  λ none. (
    λ before. none (any-left (IsInside v) old sets before),
    elim (contains-or_not range v) [
      | inl inside ↦ (means v).0 (contained-admitted range v release inside)
      | inr not ↦ absurd (none (any-right (IsInside v) old sets
          ((releases v release).1 (λ admits. not (admitted-contained range v admits)))))
    ],
  ),
  λ both contains. elim (any-either (IsInside v) old sets contains) [
    | inl before ↦ both.0 before
    | inr here ↦ (releases v release).0 here ((means v).1 both.1)
  ],
)
