-- A version that is looked for inside the sets, prerelease or not: which sets contain it, and how many comparisons it
-- takes.
use native.Mathlib.Omega.{arith}
use Rattle.std.proofs.Common.{◌↔◌, ℕ, ◌+◌, ◌≤◌, ◌<◌, ◌^◌, List, [], ◌∷◌, inl, inr, subst}
use Rattle.semver_cuts.specs.declared.cut.Cut.TheVariants.{Before}
use Rattle.semver_cuts.specs.Ends.{Ends}
use Rattle.semver_cuts.specs.SpanLists.{IsInSome}
use Rattle.semver_texts.specs.Comparison.{version_cmp}
use Rattle.semver_texts.specs.Version.{VersionValue}
use Rattle.semver_sets.specs.Meaning.{IsInside, RangeContains}
use Rattle.semver_sets.specs.Searching.{IsShortSearchInside}
use Rattle.semver_sets.proofs.Sets.Openings.{some-digit, starts-once}

-- the cut before a version lies in one of the sets exactly if the sets contain the version
pub inside-contains : (v : VersionValue) (sets : List (Ends VersionValue))
    → IsInSome version_cmp sets (Before v) ↔ RangeContains sets v
inside-contains v [] = (λ is. is, λ is. is)
inside-contains v (set ∷ sets) = grind (arith, inside-contains v sets)

-- in one set: two comparisons at most
pub only-short-inside : (set : Ends VersionValue) (v : VersionValue) (before after : ℕ) → before ≤ after
    → after ≤ before + 2 → (IsInside v set → before + 2 ≤ after) → IsShortSearchInside (set ∷ []) v before after
only-short-inside set v before after adds short contained = record {
  adds = adds;
  short = λ digits fits.
      some-digit digits before after (subst (λ n. n < 2 ^ digits) (starts-once set) fits) short;
  contained = λ is. elim is [ inl here ↦ contained here | inr there ↦ absurd there ];
}
