-- Whether comparators admit a version, and whether a cut lies in one, by tests that compute.
use native.Mathlib.Omega.{arith}
use Rattle.std.proofs.Common.{◌≡◌, ◌≢◌, ◌↔◌, Bool, IsTrue, true, false, List, [], ◌∷◌, refl, inl, inr}
use Rattle.std.proofs.lemmas.Bool.{and_from, and_parts, cases_Bool, or_cases, or_left, or_right}
use Rattle.std.proofs.lemmas.Bool.Decides.{Decides-or}
use Rattle.std.specs.List.{AllByRecursion, list_all, list_any}
use Rattle.std.specs.Ordering.{is_le, is_lt}
use Rattle.std.specs.Prelude.{◌&&◌, ◌||◌, not}
use Rattle.semver_cuts.specs.declared.cut.Cut.{Cut}
use Rattle.semver_cuts.specs.declared.cut.Cut.TheVariants.{Before}
use Rattle.semver_cuts.specs.Cut.{cut_cmp}
use Rattle.semver_cuts.specs.Ends.{IsInSpan}
use Rattle.semver_cuts.specs.Lemmas.Ends.{at_most-from_le, below-from_lt, le-from_at_most, lt-from_below}
use Rattle.semver_texts.specs.Comparison.{version_cmp}
use Rattle.semver_texts.specs.Version.{VersionValue}
use Rattle.semver_cuts.specs.Ends.{Ends}
use Rattle.semver_sets.specs.Comparator.{Comparator}
use Rattle.semver_sets.specs.Meaning.{Admit, AnyByRecursion, HasOpenEnd, IsInside, Opens}
use Rattle.semver_sets.specs.Searching.{has_open_end, opens}

-- the cut lies in the comparator
abbrev pub Holds : Cut VersionValue → Comparator → Type 0
Holds cut c = IsInSpan version_cmp c cut

abbrev pub holds : Cut VersionValue → Comparator → Bool
holds cut c = is_le (cut_cmp version_cmp c.lower cut) && is_lt (cut_cmp version_cmp cut c.upper)

pub holds-iff : (cut : Cut VersionValue) (c : Comparator) → (holds cut c ≡ true) ↔ Holds cut c
holds-iff cut c = grind (arith, and_parts, at_most-from_le, below-from_lt, and_from, le-from_at_most, lt-from_below)

abbrev pub has_elements : {X : Type 0} → List X → Bool
has_elements [] = false
has_elements (x ∷ xs) = true

pub elements-iff : {X : Type 0} → (xs : List X) → (has_elements xs ≡ true) ↔ (xs ≢ [])
elements-iff xs = grind arith

opens-iff : (v : VersionValue) (cut : Cut VersionValue) → IsTrue (opens cut v) ↔ Opens cut v
opens-iff v cut = grind arith

pub open_end-iff : (v : VersionValue) (set : Ends VersionValue) → IsTrue (has_open_end v set) ↔ HasOpenEnd v set
open_end-iff v set = Decides-or _ _ (opens-iff v set.lower) (opens-iff v set.upper)

pub all-iff : {X : Type 0} (P : X → Type 0) (p : X → Bool) → ((x : X) → (p x ≡ true) ↔ P x) → (xs : List X)
    → (list_all p xs ≡ true) ↔ AllByRecursion P xs
all-iff P p iff [] = (λ h. tt, λ h. refl)
all-iff P p iff (x ∷ xs) = grind (arith, and_parts, and_from, all-iff P p iff xs)

pub any-iff : {X : Type 0} (P : X → Type 0) (p : X → Bool) → ((x : X) → (p x ≡ true) ↔ P x) → (xs : List X)
    → (list_any p xs ≡ true) ↔ AnyByRecursion P xs
any-iff P p iff [] = (λ h. cc h, λ h. absurd h)
any-iff P p iff (x ∷ xs) = grind (arith, or_cases, or_left, or_right, any-iff P p iff xs)

abbrev pub admit : List Comparator → VersionValue → Bool
admit comparators v =
    list_all (holds (Before v)) comparators &&
    (not (has_elements v.pre_release) || list_any (has_open_end v) comparators)

pub admit-iff : (comparators : List Comparator) (v : VersionValue) → (admit comparators v ≡ true) ↔ Admit comparators v
admit-iff comparators v = (
  λ h.
      let parts = and_parts (list_all (holds (Before v)) comparators)
      (not (has_elements v.pre_release) || list_any (has_open_end v) comparators) h in
      record {
        inside = (all-iff (IsInside v) (holds (Before v)) (holds-iff (Before v)) comparators).0 parts.0;
        opened = λ prerelease.
            let some : has_elements v.pre_release ≡ true = (elements-iff v.pre_release).1 prerelease in
            (any-iff (HasOpenEnd v) (has_open_end v) (open_end-iff v) comparators).0 (rw some at parts.1);
      },
  λ h. and_from _ _ ((all-iff (IsInside v) (holds (Before v)) (holds-iff (Before v)) comparators).1 h.inside)
      (elim (cases_Bool (has_elements v.pre_release)) [
        | inl some ↦ or_right _ _
            ((any-iff (HasOpenEnd v) (has_open_end v) (open_end-iff v) comparators).1
            (h.opened ((elements-iff v.pre_release).0 some)))
        | inr none ↦ rw none refl
      ]),
)
