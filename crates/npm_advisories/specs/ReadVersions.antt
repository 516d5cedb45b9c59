-- How the text of a version is read: of an installed package, and of `versions` in OSV's form.
use Rattle.std.specs.Prelude.{◌||◌, ◌&&◌, ℕ, List, Bool, Option, Some, None, chars, length, nat_le, slice_index}
use Rattle.std.specs.Char.{is_ascii_digit}
use Rattle.node_semver.specs.Versions.{IsVersionText, MAX_LENGTH, VersionValue}
use Rattle.npm_texts.specs.InstalledVersions.{IsInstalledVersion, bare}

-- npm reads no version in the text
abbrev pub IsUnread : (text : List ℕ) → Type 0
IsUnread text = (v : VersionValue) → ¬ IsInstalledVersion text v

-- What the text of a version is read as: the version that npm reads, as 1.2.3 of `=1.2.3`; or else the version that the
-- text is, as 1.2.3 of `V1.2.3`; or else none
pub data IsReadAs (text : List ℕ) : Option VersionValue → Type 0 where
  by_npm : (v : VersionValue) → IsInstalledVersion text v → IsReadAs text (Some v)
  as_text : (v : VersionValue) → IsUnread text → IsVersionText text v → IsReadAs text (Some v)
  unread : IsUnread text → ((v : VersionValue) → ¬ IsVersionText text v) → IsReadAs text None

-- it is read as one, by a test for version texts: as it stands, or without leads and white space if it is short and then begins
-- with a digit
abbrev pub is_read : (is_version : List ℕ → Bool) → (text : List ℕ) → Bool
is_read is_version text = is_version text || (is_version (bare text) && (nat_le (length (chars text)) MAX_LENGTH
    && is_ascii_digit (slice_index (bare text) 0)))
