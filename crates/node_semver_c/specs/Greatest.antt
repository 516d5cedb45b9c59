-- The greatest and the least of the versions of an array that are wanted, by their places. A range wants the versions
-- that it admits or, with prereleases included, those that it contains.
use Rattle.std.specs.Prelude.{◌≡◌, ℕ, List, [], ◌∷◌, length}
use Rattle.node_semver_c.specs.declared.handle.version.VersionRef.{VersionRef}
use Rattle.semver_texts.specs.Order.{IsBelow}
use Rattle.semver_texts.specs.Version.{VersionValue}
use Rattle.node_semver.specs.Greatest.{IsFirstBest}

-- the versions that the borrowed handles point to
abbrev pub values : List VersionRef → List VersionValue
values [] = []
values (handle ∷ handles) = handle.value ∷ values handles

-- the version at this place is the best that is wanted, and of equal ones the first
pub record IsBestAt (IsBetter : VersionValue → VersionValue → Type 0) (Wanted : VersionValue → Type 0)
    (versions : List VersionValue) (place : ℕ)
    : Type 0 where
  pub best : VersionValue
  pub first : IsFirstBest IsBetter Wanted versions best
  pub place_is : length first.before ≡ place

-- the greatest is at this place
abbrev pub IsGreatestAt : (VersionValue → Type 0) → List VersionValue → ℕ → Type 0
IsGreatestAt = IsBestAt (λ (v : VersionValue) (best : VersionValue). IsBelow best v)

-- the least is at this place
abbrev pub IsLeastAt : (VersionValue → Type 0) → List VersionValue → ℕ → Type 0
IsLeastAt = IsBestAt IsBelow
