-- The pair that is not completely read.
use Rattle.std.specs.Prelude.{◌≡◌, ℕ, List, [], ◌∷◌, ◌++◌, false, if◌then◌else◌}
use Rattle.semver_texts.specs.Characters.{newline}
use Rattle.semver_pairs.specs.declared.open_pair.OpenPair.{OpenPair}
use Rattle.semver_pairs.specs.Private.Splitting.{HasNoNewline}

-- all bytes that were read of it
abbrev pub open_bytes : OpenPair → List ℕ
open_bytes pair =
    if pair.is_range_ended then pair.range.items ++ (newline ∷ pair.version.items) else pair.range.items

-- its lines contain no newline byte, and no byte of the version line was read before the range line ended
pub record IsOpen (pair : OpenPair) : Type 0 where
  pub range : HasNoNewline pair.range.items
  pub version : HasNoNewline pair.version.items
  pub none_yet : pair.is_range_ended ≡ false → pair.version.items ≡ []
