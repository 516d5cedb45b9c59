-- The comparators of one alternative as one set: its two ends, the versions that it admits, and that merging loses
-- nothing.
--
-- `>=1.2.3-rc.4 >=1.0.0 <2.0.0` gives the set from just before 1.2.3-rc.4 up to just before 2.0.0. The set of
-- `>=1.0.0+a >=1.0.0+b` begins just before 1.0.0+b, and that of `<1.0.0+a <1.0.0+b` ends just before 1.0.0+a.
use Rattle.std.specs.Prelude.{◌≡◌, ◌≢◌, ◌↔◌, ℕ, List, [], ◌∷◌, ◌++◌, Option, Some, None, IfSome, IsSome}
use Rattle.std.specs.List.{AllByRecursion}
use Rattle.semver_cuts.specs.declared.cut.Cut.TheVariants.{Start, End}
use Rattle.semver_cuts.specs.Ends.{Ends, HoldsCut}
use Rattle.semver_cuts.specs.ChosenEnds.{IsLastGreatestLower, IsFirstLeastUpper}
use Rattle.semver_sets.specs.Comparator.{Comparator}
use Rattle.semver_texts.specs.Comparison.{version_cmp}
use Rattle.semver_sets.specs.Division.{IsWritten}
use Rattle.semver_sets.specs.Meaning.{Admit, AnyByRecursion, GiveSet, HasOpenEnd, IsInside, SetAdmits}
use Rattle.semver_texts.specs.Version.{IsPrerelease, VersionValue}

-- it begins at the last of the greatest lower ends, and ends at the first of the least upper ends
pub record IsSetOf (comparators : List Comparator) (set : Ends VersionValue) : Type 0 where
  pub lower : IsLastGreatestLower version_cmp comparators set.lower
  pub upper : IsFirstLeastUpper version_cmp comparators set.upper

-- the span that comparators have in common, which can contain no cut; or none if there are no comparators
abbrev pub IsCommonSpan : List Comparator → Option Comparator → Type 0
IsCommonSpan comparators None = comparators ≡ []
IsCommonSpan comparators (Some common) = IsSetOf comparators common

-- the common span before and after one more comparator
abbrev pub IsNarrowedTo : Option Comparator → Comparator → Option Comparator → Type 0
IsNarrowedTo before c after = (comparators : List Comparator) → IsCommonSpan comparators before
    → IsCommonSpan (comparators ++ c ∷ []) after

-- that span if a cut lies in it; otherwise, or if there are no comparators, none
abbrev pub IsSpanOf : Option Comparator → Option (Ends VersionValue) → Type 0
IsSpanOf None span = span ≡ None
IsSpanOf (Some common) span =
    (IsSome span ↔ HoldsCut version_cmp common) × IfSome span (λ ends. ends ≡ common)

-- the set of all cuts, from the start to the end
abbrev pub all_cuts : Ends VersionValue
all_cuts = record { lower = Start; upper = End }

-- the sets of alternatives, in order: one for each alternative that gives a set
pub data AreSetsOf : List (List Comparator) → List (Ends VersionValue) → Type 0 where
  none : AreSetsOf [] []
  one_more : (comparators : List Comparator) (alternatives : List (List Comparator)) (set : Ends VersionValue)
      (sets : List (Ends VersionValue)) → GiveSet comparators → IsSetOf comparators set → AreSetsOf alternatives sets
      → AreSetsOf (comparators ∷ alternatives) (set ∷ sets)
  no_more : (comparators : List Comparator) (alternatives : List (List Comparator)) (sets : List (Ends VersionValue))
      → ¬ GiveSet comparators → AreSetsOf alternatives sets → AreSetsOf (comparators ∷ alternatives) sets

-- the sets of a range text
pub record AreSetsOfText (text : List ℕ) (sets : List (Ends VersionValue)) : Type 0 where
  pub alternatives : List (List Comparator)
  pub written : IsWritten text alternatives
  pub merged : AreSetsOf alternatives sets

-- ---- laws

-- if there is a comparator, the comparators have exactly one set
abbrev pub HasOneSet : List Comparator → Type 0
HasOneSet comparators = (comparators ≢ []) → (set : Ends VersionValue) × IsSetOf comparators set
    × ((other : Ends VersionValue) → IsSetOf comparators other → other ≡ set)

-- for a prerelease inside all comparators: an end of one of them opens its triple exactly if an end of the set does
abbrev pub LosesNothing : List Comparator → Ends VersionValue → VersionValue → Type 0
LosesNothing comparators set v = IsPrerelease v → AllByRecursion (IsInside v) comparators
    → AnyByRecursion (HasOpenEnd v) comparators ↔ HasOpenEnd v set

-- the comparators admit exactly the versions that their set admits
abbrev pub AdmitsTheSame : List Comparator → Ends VersionValue → VersionValue → Type 0
AdmitsTheSame comparators set v = Admit comparators v ↔ SetAdmits set v

-- a range text has at most one list of sets
abbrev pub HasOneMerging : List ℕ → Type 0
HasOneMerging text =
    (one other : List (Ends VersionValue)) → AreSetsOfText text one → AreSetsOfText text other → one ≡ other
