-- The newest version that one of several texts writes and a range admits.
use Rattle.std.specs.Prelude.{ℕ, List}
use Rattle.std.specs.List.{Contains}
use Rattle.node_semver.specs.Cuts.{Ends}
use Rattle.node_semver.specs.Ranges.{RangeAdmits}
use Rattle.node_semver.specs.Versions.{IsBelow, IsVersionText, VersionValue}

-- one of the texts writes the version
pub record IsWrittenIn (texts : List (List ℕ)) (v : VersionValue) : Type 0 where
  pub text : List ℕ
  pub listed : Contains texts text
  pub written : IsVersionText text v

-- one of the texts writes the version, and the range admits it
pub record IsOffered (sets : List (Ends VersionValue)) (texts : List (List ℕ)) (v : VersionValue) : Type 0 where
  pub written : IsWrittenIn texts v
  pub admitted : RangeAdmits sets v

-- the version is offered, and no version with higher precedence is
pub record IsNewest (sets : List (Ends VersionValue)) (texts : List (List ℕ)) (newest : VersionValue) : Type 0 where
  pub offered : IsOffered sets texts newest
  pub none_above : (v : VersionValue) → IsOffered sets texts v → ¬ IsBelow newest v

-- ---- for the private function

-- the list has exactly the versions that the texts write
pub record AreVersionsOf (texts : List (List ℕ)) (versions : List VersionValue) : Type 0 where
  pub each : (v : VersionValue) → Contains versions v → IsWrittenIn texts v
  pub all : (v : VersionValue) → IsWrittenIn texts v → Contains versions v
