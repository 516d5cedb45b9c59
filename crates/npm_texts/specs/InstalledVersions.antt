-- What npm reads the `version` of an installed package as: npm's "semver", `loose`.
use Rattle.std.specs.Prelude.{◌≡◌, ◌==◌, ◌≤◌, ◌||◌, ℕ, List, Bool, true, chars, encode_utf8_all, length, slice_index}
use Rattle.std.specs.Char.{is_ascii_digit}
use Rattle.node_semver.specs.Versions.{IsVersionText, MAX_LENGTH, VersionValue}
use Rattle.semver_texts.specs.Characters.{equal_sign, letter_v}
use Rattle.npm_texts.specs.WhiteSpace.{is_white, without_end, without_start}

-- what may come before a version: `v`, `=` and white space
abbrev pub is_lead : ℕ → Bool
is_lead c = (c == letter_v) || (c == equal_sign) || is_white c

-- the text without leads at its start and white space at its end: `1.2.3` of ` =v 1.2.3 `
unfoldable pub bare : List ℕ → List ℕ
bare text = encode_utf8_all (without_end is_white (without_start is_lead (chars text)))

-- The version that npm reads this text as. It has at most 256 characters, and without leads and white space it is a
-- version text that begins with a digit: `=1.2.3` and ` v 1.2.3` are 1.2.3, and `V1.2.3` is no version.
pub record IsInstalledVersion (text : List ℕ) (v : VersionValue) : Type 0 where
  pub short : length (chars text) ≤ MAX_LENGTH
  pub digit : is_ascii_digit (slice_index (bare text) 0) ≡ true
  pub read : IsVersionText (bare text) v
