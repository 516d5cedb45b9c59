-- A partial after a tilde: npm's "Tilde Ranges".
use Rattle.std.specs.Prelude.{◌≡◌, ℕ, ◌+◌, List, [], ◌∷◌, ◌++◌, Option, Some, None}
use Rattle.semver_texts.specs.Characters.{AreAll, greater_sign, is_blank, tilde}
use Rattle.semver_texts.specs.Version.{VersionValue, least_of, without_build}
use Rattle.semver_sets.specs.Comparator.{Comparator, from_up_to, with_major, with_minor}
use Rattle.semver_sets.specs.PartialText.{IsLed, Partial, by_row}

-- By the components of a partial and its version z:

-- `~`
abbrev pub tilde_row : (major minor patch : Option ℕ) (z : VersionValue) → Option Comparator
-- `~1.2.3-a` is `>=1.2.3-a <1.3.0-0`
tilde_row (Some major) (Some minor) (Some patch) z = Some (from_up_to (without_build z) (least_of major (minor + 1) 0))
-- `~1.2` and `~1.2.x-a` are `>=1.2.0 <1.3.0-0`
tilde_row (Some major) (Some minor) None z = Some (with_minor major minor)
-- `~1` is `>=1.0.0 <2.0.0-0`
tilde_row (Some major) None None z = Some (with_major major)
-- `~1.x.3` and `~*` give no comparator
tilde_row major minor patch z = None

-- `~>`, which keeps a prerelease after an x
abbrev pub tilde_greater_row : (major minor patch : Option ℕ) (z : VersionValue) → Option Comparator
-- `~>1.2` is `>=1.2.0 <1.3.0-0`, `~>1.2.x-a` is `>=1.2.0-a <1.3.0-0`
tilde_greater_row (Some major) (Some minor) None z = Some (from_up_to (without_build z) (least_of major (minor + 1) 0))
-- every other partial is read as after `~`
tilde_greater_row major minor patch z = tilde_row major minor patch z

-- `~`, or `~`, optional blanks and `>`; then optional blanks, and a partial: `~1.2`, `~ > 1.2`
pub data IsTildeText (text : List ℕ) (comparator : Option Comparator) : Type 0 where
  with_tilde : (p : Partial) → IsLed (tilde ∷ []) text p → comparator ≡ by_row tilde_row p → IsTildeText text comparator
  with_tilde_greater : (blanks : List ℕ) (p : Partial) → AreAll is_blank blanks
      → IsLed (tilde ∷ (blanks ++ (greater_sign ∷ []))) text p → comparator ≡ by_row tilde_greater_row p
      → IsTildeText text comparator
