-- Worked examples: how many spans the sets of a text are joined to, and how many comparisons a search takes at most.
use Rattle.std.proofs.Common.{◌≡◌, ◌≤◌, ◌+◌, ◌*◌, ℕ, List, [], ◌∷◌, Some, arith, codes, inl}
use Rattle.std.proofs.Common.{inr, refl}
use Rattle.semver_cuts.specs.declared.cut.Cut.TheVariants.{Before}
use Rattle.semver_cuts.specs.Starts.{count_of_starts}
use Rattle.semver_cuts.specs.Lemmas.Ends.{at_most-from_le, below-from_lt}
use Rattle.semver_sets.specs.Comparator.{at_least, below, from_up_to, with_major}
use Rattle.semver_texts.specs.Comparison.{version_cmp}
use Rattle.semver_texts.specs.IdentifierValue.{alphanumeric, numeric}
use Rattle.semver_sets.specs.Meaning.{IsInside, RangeContains, SetAdmits}
use Rattle.semver_sets.specs.Merging.{AreSetsOfText}
use Rattle.semver_sets.specs.Searching.{HasDigits, IsShortSearch, IsShortSearchInside, count_of_opening}
use Rattle.semver_texts.specs.Version.{IsPrerelease, VersionValue, least_of, release}
use Rattle.semver_sets.proofs.Examples.SetComputing.{Sets, merged-by, sets_in}

-- ---- releases: the binary digits of how many spans there are, and one more

-- the sets of the text are joined to so many spans, and a release takes at most so many comparisons
record IsReleaseBound (text : List ℕ) (spans bound : ℕ) : Type 0 where
  sets : Sets
  written : AreSetsOfText text sets
  joined : count_of_starts version_cmp sets ≡ spans
  short : (v : VersionValue) (before after : ℕ) → ¬ IsPrerelease v → IsShortSearch sets v before after
      → after ≤ before + bound

release-bound : (text : List ℕ) (sets : Sets) (spans digits : ℕ) → sets_in text ≡ Some sets
    → count_of_starts version_cmp sets ≡ spans → HasDigits (count_of_starts version_cmp sets) digits
    → IsReleaseBound text spans (digits + 1)
release-bound text sets spans digits read joined fits = record {
  sets = sets;
  written = merged-by text sets read;
  joined = joined;
  short = λ v before after release search.
      let bound = search.release release digits fits in omega arith;
}

-- three spans, as they are
apart : IsReleaseBound (codes "1 || 3 || 5") 3 3
unfolding sets_in
apart = release-bound _ (with_major 1 ∷ with_major 3 ∷ with_major 5 ∷ []) 3 2 refl refl (omega arith)

-- sets that overlap are one, `>=1.0.0 <4.0.0-0`
overlapping : IsReleaseBound (codes "1 || 1.5 - 3 || 2") 1 2
unfolding sets_in
overlapping =
    release-bound _ (with_major 1 ∷ from_up_to (release 1 5 0) (least_of 4 0 0) ∷ with_major 2 ∷ []) 1 1 refl refl
    (omega arith)

-- sets that touch are one
touching : IsReleaseBound (codes "1 || >=2.0.0-0") 1 2
unfolding sets_in
touching = release-bound _ (with_major 1 ∷ at_least (least_of 2 0 0) ∷ []) 1 1 refl refl (omega arith)

-- the cut before `2.0.0-0` lies between these two
with_cut_between : IsReleaseBound (codes "1 || 2") 2 3
unfolding sets_in
with_cut_between = release-bound _ (with_major 1 ∷ with_major 2 ∷ []) 2 2 refl refl (omega arith)

-- ---- prereleases: two for each set with an end that opens the triple

-- so many sets of the text open the version's triple, and it takes at most twice as many comparisons
record IsPrereleaseBound (text : List ℕ) (v : VersionValue) (opening : ℕ) : Type 0 where
  sets : Sets
  written : AreSetsOfText text sets
  opened : count_of_opening v sets ≡ opening
  short : (before after : ℕ) → IsPrerelease v → IsShortSearch sets v before after → after ≤ before + 2 * opening

prerelease-bound : (text : List ℕ) (v : VersionValue) (sets : Sets) (opening : ℕ) → sets_in text ≡ Some sets
    → count_of_opening v sets ≡ opening → IsPrereleaseBound text v opening
prerelease-bound text v sets opening read opened = record {
  sets = sets;
  written = merged-by text sets read;
  opened = opened;
  short = λ before after pre search. let bound = search.prerelease pre in omega (arith, opened);
}

-- `1.2.3-rc.4`
abbrev candidate : ℕ → VersionValue
candidate n = record (release 1 2 3) { pre_release = alphanumeric (codes "rc") ∷ numeric n ∷ [] }

abbrev candidates : Sets
candidates = from_up_to (candidate 4) (candidate 6) ∷ below (release 2 0 0) ∷ []

-- one of two sets opens their triple, whether it has them inside or not
inside_first : IsPrereleaseBound (codes ">=1.2.3-rc.4 <1.2.3-rc.6 || <2.0.0") (candidate 5) 1
unfolding sets_in
inside_first = prerelease-bound _ (candidate 5) candidates 1 refl refl

inside_second : IsPrereleaseBound (codes ">=1.2.3-rc.4 <1.2.3-rc.6 || <2.0.0") (candidate 7) 1
unfolding sets_in
inside_second = prerelease-bound _ (candidate 7) candidates 1 refl refl

-- no end opens the triple, so nothing is compared
unopened : IsPrereleaseBound (codes "1 || 3 || 5") (candidate 5) 0
unfolding sets_in
unopened = prerelease-bound _ (candidate 5) (with_major 1 ∷ with_major 3 ∷ with_major 5 ∷ []) 0 refl refl

-- ---- counts of no search: one that falls, and one that stays though the version is admitted

fallen : (sets : Sets) (v : VersionValue) → ¬ IsShortSearch sets v 3 0
fallen sets v search = let adds = search.adds in absurd (omega (arith, adds))

-- `3.0.0` lies in the second set of `1 || 3 || 5`
third-inside : IsInside (release 3 0 0) (with_major 3)
third-inside = record {
  lower = at_most-from_le version_cmp (with_major 3).lower (Before (release 3 0 0)) refl;
  upper = below-from_lt version_cmp (Before (release 3 0 0)) (with_major 3).upper refl;
}

uncounted : (n : ℕ) → ¬ IsShortSearch (with_major 1 ∷ with_major 3 ∷ with_major 5 ∷ []) (release 3 0 0) n n
uncounted n search =
    let inside : SetAdmits (with_major 3) (release 3 0 0) =
    record { inside = third-inside; opened = λ pre. absurd (pre refl) } in
    let twice = search.admitted (inr (inl inside)) in
    absurd (omega (arith, twice))

-- ---- with prereleases: as for releases, whatever the ends are

-- `1 || 3 || 5`: three comparisons at most for any version, and two at least for one that the range contains
inside-apart : (v : VersionValue) (before after : ℕ)
    → IsShortSearchInside (with_major 1 ∷ with_major 3 ∷ with_major 5 ∷ []) v before after
    → (before ≤ after) × (after ≤ before + 3)
inside-apart v before after search = (search.adds, let short = search.short 2 (omega arith) in omega arith)

contained-apart : (v : VersionValue) (before after : ℕ)
    → IsShortSearchInside (with_major 1 ∷ with_major 3 ∷ with_major 5 ∷ []) v before after
    → RangeContains (with_major 1 ∷ with_major 3 ∷ with_major 5 ∷ []) v → before + 2 ≤ after
contained-apart v before after search inside = search.contained inside
