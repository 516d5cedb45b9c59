-- A partial after a caret: npm's "Caret Ranges".
use Rattle.std.specs.Prelude.{◌≡◌, ℕ, ◌+◌, zero, suc, List, [], ◌∷◌, Option, Some, None}
use Rattle.semver_texts.specs.Characters.{caret}
use Rattle.semver_texts.specs.Version.{VersionValue, least_of, release, without_build}
use Rattle.semver_sets.specs.Comparator.{Comparator, below, from_up_to, with_major, with_minor}
use Rattle.semver_sets.specs.PartialText.{IsLed, Partial, by_row}

-- by the components of a partial and its version z: the leftmost number that is not 0 is raised
abbrev pub caret_row : (major minor patch : Option ℕ) (z : VersionValue) → Option Comparator
-- `^0` is `<1.0.0-0`
caret_row (Some zero) None None z = Some (below (least_of 1 0 0))
-- `^1` is `>=1.0.0 <2.0.0-0`
caret_row (Some (suc major)) None None z = Some (with_major (suc major))
-- `^0.2` is `>=0.2.0 <0.3.0-0`
caret_row (Some zero) (Some minor) None z = Some (with_minor 0 minor)
-- `^1.2` is `>=1.2.0 <2.0.0-0`
caret_row (Some (suc major)) (Some minor) None z =
    Some (from_up_to (release (suc major) minor 0) (least_of (suc major + 1) 0 0))
-- `^0.0.3-a` is `>=0.0.3-a <0.0.4-0`
caret_row (Some zero) (Some zero) (Some patch) z = Some (from_up_to (without_build z) (least_of 0 0 (patch + 1)))
-- `^0.2.3-a` is `>=0.2.3-a <0.3.0-0`
caret_row (Some zero) (Some (suc minor)) (Some patch) z =
    Some (from_up_to (without_build z) (least_of 0 (suc minor + 1) 0))
-- `^1.2.3-a` is `>=1.2.3-a <2.0.0-0`
caret_row (Some (suc major)) (Some minor) (Some patch) z =
    Some (from_up_to (without_build z) (least_of (suc major + 1) 0 0))
-- `^1.x.3` and `^*` give no comparator
caret_row major minor patch z = None

-- `^`, optional blanks, and a partial: `^1.2`
pub record IsCaretText (text : List ℕ) (comparator : Option Comparator) : Type 0 where
  pub partial : Partial
  pub written : IsLed (caret ∷ []) text partial
  pub says : comparator ≡ by_row caret_row partial
