-- The least of the versions for which something holds, among all versions with any numbers and any identifiers.
--
-- The least that `>1.0.0 <1.0.1-beta` admits is 1.0.1-0: an end is a prerelease of 1.0.1, so the prereleases of 1.0.1
-- inside the set are admitted, and no version lies between 1.0.0 and 1.0.1-0. For `>1.0.0-a <1.0.0-a.0` there is none,
-- because no version lies inside.
use Rattle.std.specs.Prelude.{◌≡◌, List, [], ◌∷◌, ◌++◌}
use Rattle.std.specs.List.{AllByRecursion}
use Rattle.semver_cuts.specs.declared.cut.Cut.{Cut}
use Rattle.semver_cuts.specs.declared.cut.Cut.TheVariants.{Start, Before, After, End}
use Rattle.semver_cuts.specs.Ends.{Ends}
use Rattle.semver_texts.specs.IdentifierValue.{IdentifierValue}
use Rattle.semver_sets.specs.Meaning.{IsInside, RangeAdmits, RangeContains, SetAdmits}
use Rattle.semver_texts.specs.Order.{IsBelow}
use Rattle.semver_texts.specs.Version.{VersionValue}

-- the version is wanted, and no wanted version has lower precedence
pub record IsLeastOf (Wanted : VersionValue → Type 0) (least : VersionValue) : Type 0 where
  pub wanted : Wanted least
  pub none_below : (v : VersionValue) → Wanted v → ¬ IsBelow v least

-- no version is wanted
abbrev pub IsNoneOf : (VersionValue → Type 0) → Type 0
IsNoneOf Wanted = (v : VersionValue) → ¬ Wanted v

-- ---- the versions that a range admits

-- the range admits the version, and admits none with lower precedence
abbrev pub IsLeastAdmitted : List (Ends VersionValue) → VersionValue → Type 0
IsLeastAdmitted sets least = IsLeastOf (RangeAdmits sets) least

-- the range admits no version
abbrev pub AdmitsNone : List (Ends VersionValue) → Type 0
AdmitsNone sets = IsNoneOf (RangeAdmits sets)

-- the set is the first of the list that has the version
pub record IsFirstWith (Has : Ends VersionValue → VersionValue → Type 0) (sets : List (Ends VersionValue))
    (v : VersionValue) (set : Ends VersionValue) : Type 0 where
  pub before : List (Ends VersionValue)
  pub after : List (Ends VersionValue)
  pub parts : sets ≡ before ++ set ∷ after
  pub earlier : AllByRecursion (λ (other : Ends VersionValue). ¬ Has other v) before
  pub admits : Has set v

-- the build of the version that a cut is at, or no build for the start and the end
abbrev pub build_at : Cut VersionValue → List IdentifierValue
build_at Start = []
build_at (Before v) = v.build
build_at (After v) = v.build
build_at End = []

-- the version has the build of the lower end of the first set that has it: 1.0.0+a for `>=1.0.0+a || >=1.0.0+b`
pub record HasBuildOf (Has : Ends VersionValue → VersionValue → Type 0) (sets : List (Ends VersionValue))
    (v : VersionValue) : Type 0 where
  pub set : Ends VersionValue
  pub first : IsFirstWith Has sets v set
  pub build : v.build ≡ build_at set.lower

-- the version has the build of the lower end of the first set that admits it
abbrev pub HasBuildOfFirst : List (Ends VersionValue) → VersionValue → Type 0
HasBuildOfFirst = HasBuildOf SetAdmits

-- ---- the versions that a range contains, prereleases as releases

-- the least that `>1.0.0` contains is 1.0.1-0, and the least that `<1.0.0` contains is 0.0.0-0
abbrev pub IsLeastContained : List (Ends VersionValue) → VersionValue → Type 0
IsLeastContained sets least = IsLeastOf (RangeContains sets) least

-- the range contains no version
abbrev pub ContainsNone : List (Ends VersionValue) → Type 0
ContainsNone sets = IsNoneOf (RangeContains sets)

-- the version has the build of the lower end of the first set that it lies inside
abbrev pub HasBuildOfFirstAround : List (Ends VersionValue) → VersionValue → Type 0
HasBuildOfFirstAround = HasBuildOf (λ set v. IsInside v set)

-- ---- the versions that one range has and another does not

-- one has the version, and the other does not
pub record IsBeyond (One Other : VersionValue → Type 0) (v : VersionValue) : Type 0 where
  pub admitted : One v
  pub turned_away : ¬ Other v

-- `^1.2.3-rc.4` admits 1.2.3-rc.4 beyond `>=1.0.0-0`, though that range contains all its cuts. `1 - 2` admits no
-- version beyond `1 || 2`, though the cut before 2.0.0-0 lies in `1 - 2` alone.
abbrev pub AdmitsBeyond : List (Ends VersionValue) → List (Ends VersionValue) → VersionValue → Type 0
AdmitsBeyond sets others = IsBeyond (RangeAdmits sets) (RangeAdmits others)

-- the first range admits the version and the second does not, and no such version has lower precedence
abbrev pub IsLeastBeyond : List (Ends VersionValue) → List (Ends VersionValue) → VersionValue → Type 0
IsLeastBeyond sets others least = IsLeastOf (AdmitsBeyond sets others) least

-- there is no version that the first range admits and the second does not
abbrev pub AdmitsNoneBeyond : List (Ends VersionValue) → List (Ends VersionValue) → Type 0
AdmitsNoneBeyond sets others = IsNoneOf (AdmitsBeyond sets others)

-- each version that satisfies the first range satisfies the second
abbrev pub IsAdmittedBy : List (Ends VersionValue) → List (Ends VersionValue) → Type 0
IsAdmittedBy sets others = (v : VersionValue) → RangeAdmits sets v → RangeAdmits others v

-- `1 - 2` contains 2.0.0-0 beyond `1 || 2`
abbrev pub ContainsBeyond : List (Ends VersionValue) → List (Ends VersionValue) → VersionValue → Type 0
ContainsBeyond sets others = IsBeyond (RangeContains sets) (RangeContains others)

-- each version that the first range contains the second contains
abbrev pub IsContainedIn : List (Ends VersionValue) → List (Ends VersionValue) → Type 0
IsContainedIn sets others = (v : VersionValue) → RangeContains sets v → RangeContains others v

-- ---- the versions that two ranges both have

-- both have the version
pub record IsInBoth (One Other : VersionValue → Type 0) (v : VersionValue) : Type 0 where
  pub one : One v
  pub other : Other v

-- `^2.0.0-rc.1` and `>=1.5` both admit 2.0.0. They do not both admit 2.0.0-rc.4, though both contain it
abbrev pub BothAdmit : List (Ends VersionValue) → List (Ends VersionValue) → VersionValue → Type 0
BothAdmit sets others = IsInBoth (RangeAdmits sets) (RangeAdmits others)

-- both ranges admit the version, and no such version has lower precedence
abbrev pub IsLeastCommon : List (Ends VersionValue) → List (Ends VersionValue) → VersionValue → Type 0
IsLeastCommon sets others least = IsLeastOf (BothAdmit sets others) least

-- there is no version that both ranges admit
abbrev pub AdmitNoneInCommon : List (Ends VersionValue) → List (Ends VersionValue) → Type 0
AdmitNoneInCommon sets others = IsNoneOf (BothAdmit sets others)

-- both ranges contain the version
abbrev pub BothContain : List (Ends VersionValue) → List (Ends VersionValue) → VersionValue → Type 0
BothContain sets others = IsInBoth (RangeContains sets) (RangeContains others)
