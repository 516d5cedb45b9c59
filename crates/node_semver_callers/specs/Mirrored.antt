-- Which texts of a list are versions that a range admits.
use Rattle.std.specs.Prelude.{ℕ, List, [], ◌∷◌}
use Rattle.node_semver.specs.Cuts.{Ends}
use Rattle.node_semver.specs.Ranges.{RangeAdmits}
use Rattle.node_semver.specs.Versions.{IsVersionText, VersionValue}

-- the text is a version, and the range admits it
pub record IsMirrored (sets : List (Ends VersionValue)) (text : List ℕ) : Type 0 where
  pub version : VersionValue
  pub written : IsVersionText text version
  pub admitted : RangeAdmits sets version

-- those texts, in the list's order: for `^1.0.0`, `1.2.0` and `1.0.0` of `1.2.0`, `latest`, `2.0.0` and `1.0.0`
pub data AreMirrored (sets : List (Ends VersionValue)) : (texts mirrored : List (List ℕ)) → Type 0 where
  none : AreMirrored sets [] []
  kept : (text : List ℕ) (texts mirrored : List (List ℕ)) → IsMirrored sets text → AreMirrored sets texts mirrored
      → AreMirrored sets (text ∷ texts) (text ∷ mirrored)
  removed : (text : List ℕ) (texts mirrored : List (List ℕ)) → ¬ IsMirrored sets text → AreMirrored sets texts mirrored
      → AreMirrored sets (text ∷ texts) mirrored
