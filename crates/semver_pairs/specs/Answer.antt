-- The output for a range line and a version line.
use Rattle.std.specs.Prelude.{◌⊎◌, ℕ, List, IsUtf8, codes}
use Rattle.semver_sets.specs.Meaning.{IsRefused, TextAdmits}
use Rattle.semver_texts.specs.Version.{VersionValue}
use Rattle.semver_texts.specs.VersionText.{IsVersionText}

-- the line is not UTF-8, or `Range::parse` refuses it
abbrev pub IsBadRange : List ℕ → Type 0
IsBadRange line = (¬ IsUtf8 line) ⊎ IsRefused line

-- the line is UTF-8, and is not refused as a range text
abbrev pub IsGoodRange : List ℕ → Type 0
IsGoodRange line = IsUtf8 line × (¬ IsRefused line)

-- the line is not UTF-8, or is not a version text
abbrev pub IsBadVersion : List ℕ → Type 0
IsBadVersion line = (¬ IsUtf8 line) ⊎ ((v : VersionValue) → ¬ IsVersionText line v)

-- the line is UTF-8 and the text of this version
abbrev pub IsGoodVersion : List ℕ → VersionValue → Type 0
IsGoodVersion line v = IsUtf8 line × IsVersionText line v

-- the output for a range line and a version line
pub data IsAnswer (range version : List ℕ) : List ℕ → Type 0 where
  bad_range : IsBadRange range → IsAnswer range version (codes "bad range")
  bad_version : IsGoodRange range → IsBadVersion version → IsAnswer range version (codes "bad version")
  admitted : (v : VersionValue) → IsGoodRange range → IsGoodVersion version v → TextAdmits range v
      → IsAnswer range version (codes "yes")
  turned_away : (v : VersionValue) → IsGoodRange range → IsGoodVersion version v → ¬ TextAdmits range v
      → IsAnswer range version (codes "no")
