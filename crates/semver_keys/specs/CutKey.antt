-- The key of a cut. It lies among the keys of versions where the cut lies among the versions.
use Rattle.std.specs.Prelude.{ℕ, List, [], ◌∷◌, ◌++◌}
use Rattle.semver_cuts.specs.declared.cut.Cut.{Cut}
use Rattle.semver_cuts.specs.declared.cut.Cut.TheVariants.{Start, Before, After, End}
use Rattle.semver_texts.specs.Version.{VersionValue}
use Rattle.semver_keys.specs.VersionKey.{HasWords, version_key}

-- no byte, the key of the version, that key with 0 after it, and 255. No key begins another, so no version's key lies
-- between a version's key and that key with 0
unfoldable pub cut_key : Cut VersionValue → List ℕ
cut_key Start = []
cut_key (Before v) = version_key v
cut_key (After v) = version_key v ++ 0 ∷ []
cut_key End = 255 ∷ []

-- the numbers of its version are of 64 bits
abbrev pub HasCutWords : Cut VersionValue → Type 0
HasCutWords Start = Unit {0}
HasCutWords (Before v) = HasWords v
HasCutWords (After v) = HasWords v
HasCutWords End = Unit {0}
