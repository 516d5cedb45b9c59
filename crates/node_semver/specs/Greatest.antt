-- The greatest and the least version of a list that is wanted; of equal ones the first.
--
-- For 1.2.3+a, 1.2.3+b, 1.0.0+c, 1.0.0+d and 2.0.0 and the range `^1`, the greatest that it admits is 1.2.3+a and the
-- least is 1.0.0+c. The range does not admit 2.0.0, and 1.2.3+b and 1.0.0+d come later in the list.
use Rattle.std.specs.Prelude.{◌≡◌, List, ◌∷◌, ◌++◌}
use Rattle.std.specs.List.{AllByRecursion}
use Rattle.semver_cuts.specs.Ends.{Ends}
use Rattle.semver_sets.specs.Meaning.{RangeAdmits}
use Rattle.semver_texts.specs.Order.{IsBelow, IsSame}
use Rattle.semver_texts.specs.Version.{VersionValue}

-- the version is in the list and is wanted. No wanted version of the list is better, and no wanted one before it has
-- the same precedence
pub record IsFirstBest (IsBetter : VersionValue → VersionValue → Type 0) (Wanted : VersionValue → Type 0)
    (versions : List VersionValue) (best : VersionValue)
    : Type 0 where
  pub before : List VersionValue
  pub after : List VersionValue
  pub parts : versions ≡ before ++ best ∷ after
  pub admitted : Wanted best
  pub none_better : AllByRecursion (λ (v : VersionValue). Wanted v → ¬ IsBetter v best) versions
  pub none_same : AllByRecursion (λ (v : VersionValue). Wanted v → ¬ IsSame v best) before

-- no wanted version of the list has higher precedence
abbrev pub IsGreatestIn : (VersionValue → Type 0) → List VersionValue → VersionValue → Type 0
IsGreatestIn = IsFirstBest (λ (v : VersionValue) (best : VersionValue). IsBelow best v)

-- no wanted version of the list has lower precedence
abbrev pub IsLeastIn : (VersionValue → Type 0) → List VersionValue → VersionValue → Type 0
IsLeastIn = IsFirstBest IsBelow

-- no version of the list is wanted
abbrev pub IsNoneIn : (VersionValue → Type 0) → List VersionValue → Type 0
IsNoneIn Wanted versions = AllByRecursion (λ (v : VersionValue). ¬ Wanted v) versions

-- ---- the versions of a list that a range admits

-- no admitted version of the list has higher precedence
abbrev pub IsGreatestAdmitted : List (Ends VersionValue) → List VersionValue → VersionValue → Type 0
IsGreatestAdmitted sets = IsGreatestIn (RangeAdmits sets)

-- no admitted version of the list has lower precedence
abbrev pub IsLeastAdmittedIn : List (Ends VersionValue) → List VersionValue → VersionValue → Type 0
IsLeastAdmittedIn sets = IsLeastIn (RangeAdmits sets)

-- the range admits no version of the list
abbrev pub AdmitsNoneIn : List (Ends VersionValue) → List VersionValue → Type 0
AdmitsNoneIn sets = IsNoneIn (RangeAdmits sets)
