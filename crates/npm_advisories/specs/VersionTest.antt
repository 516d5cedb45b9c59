-- A test for the texts of versions: faults are a function of it.
-- See docs/DECISIONS.md, "The faults of a file are a function of a test for version texts".
use Rattle.std.specs.Prelude.{◌≡◌, ℕ, List, Bool, true}
use Rattle.node_semver.specs.Versions.{IsVersionText, VersionValue}

-- A test that is `true` for the texts of versions, and for no others. There is one, and only one: the faults of a file are
-- the same for each such test
pub record IsVersionTest (is_version : List ℕ → Bool) : Type 0 where
  pub passes : (text : List ℕ) (v : VersionValue) → IsVersionText text v → is_version text ≡ true
  pub only : (text : List ℕ) → is_version text ≡ true → (v : VersionValue) × IsVersionText text v
