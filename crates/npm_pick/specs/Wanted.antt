-- What a wanted text can be: a version, a range or a tag.
use Rattle.std.specs.Prelude.{◌++◌, ℕ, List, Bool, codes}
use Rattle.std.specs.List.{list_all}
use Rattle.node_semver.specs.Versions.{VersionValue}
use Rattle.npm_texts.specs.InstalledVersions.{IsInstalledVersion}
use Rattle.npm_texts.specs.RangeText.{is_tag_byte}
use Rattle.npm_texts.specs.WhiteSpace.{trimmed}

-- the text is no version
abbrev pub IsNoVersion : (text : List ℕ) → Type 0
IsNoVersion text = (v : VersionValue) → ¬ IsInstalledVersion text v

-- a text that may be a tag: `latest`, `next-11`. White space around it does not count, though a document has a tag by the
-- whole text.
abbrev pub is_tag : (text : List ℕ) → Bool
is_tag text = list_all is_tag_byte (trimmed text)

-- the range of a version and of all below it: `<=1.2.3`
abbrev pub up_to : (key : List ℕ) → List ℕ
up_to key = codes "<=" ++ key
