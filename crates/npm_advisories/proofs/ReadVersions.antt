-- What the text of a version is read as.
use Rattle.std.proofs.Common.{◌≡◌, ◌&&◌, ◌||◌, ℕ, List, Bool, Option, Some, None, ap, chars, false, is_some, length, nat_le}
use Rattle.std.proofs.Common.{refl, slice_index, true}
use Rattle.std.specs.Char.{is_ascii_digit}
use Rattle.std.proofs.lemmas.Bool.{le-leb, leb-true}
use Rattle.semver_versions.specs.Lemmas.Public.{one_reading}
use Rattle.node_semver.specs.Versions.{IsVersionText, MAX_LENGTH, VersionValue}
use Rattle.npm_texts.specs.InstalledVersions.{IsInstalledVersion, bare}
use Rattle.npm_advisories.specs.ReadVersions.{IsReadAs, IsUnread, as_text, by_npm, is_read, unread}
use Rattle.npm_advisories.specs.Lemmas.VersionTests.{is-test, other-fails, version-passes}
use Rattle.npm_advisories.specs.Private.VersionTest.{is_version}

-- what npm reads is read as nothing else
pub only-by_npm : (text : List ℕ) (w : VersionValue) → IsInstalledVersion text w → (v : Option VersionValue)
    → IsReadAs text v → v ≡ Some w
only-by_npm text w is _ (by_npm v read) = ap Some (one_reading (bare text) v w read.read is.read)
only-by_npm text w is _ (as_text v never read) = absurd (never w is)
only-by_npm text w is _ (unread never none) = absurd (never w is)

-- so is a version text that npm does not read
pub only-as_text : (text : List ℕ) (w : VersionValue) → IsUnread text → IsVersionText text w → (v : Option VersionValue)
    → IsReadAs text v → v ≡ Some w
only-as_text text w not is _ (by_npm v read) = absurd (not v read)
only-as_text text w not is _ (as_text v never read) = ap Some (one_reading text v w read is)
only-as_text text w not is _ (unread never none) = absurd (none w is)

pub only-unread : (text : List ℕ) → IsUnread text → ((v : VersionValue) → ¬ IsVersionText text v)
    → (v : Option VersionValue) → IsReadAs text v → v ≡ None
only-unread text not none _ (by_npm v read) = absurd (not v read)
only-unread text not none _ (as_text v never read) = absurd (none v read)
only-unread text not none _ (unread never never_text) = refl

-- ---- the test

or-true : (a : Bool) → (a || true) ≡ true
or-true true = refl
or-true false = refl

-- a text that npm does not read has not all that it asks for
npm-fails : (text : List ℕ) → IsUnread text → (a b c : Bool) → is_version (bare text) ≡ a
    → nat_le (length (chars text)) MAX_LENGTH ≡ b → is_ascii_digit (slice_index (bare text) 0) ≡ c → (a && (b && c)) ≡ false
npm-fails text not true true true version short digit =
    let read = is-test.only (bare text) version in
    absurd (not read.0 (record { short = leb-true (length (chars text)) MAX_LENGTH short; digit = digit; read = read.1 }))
npm-fails text not true true false version short digit = refl
npm-fails text not true false c version short digit = refl
npm-fails text not false b c version short digit = refl

pub read-tells : (text : List ℕ) (v : Option VersionValue) → IsReadAs text v → is_some v ≡ is_read is_version text
read-tells text _ (by_npm v is) = rw (
  version-passes (bare text) v is.read,
  le-leb (length (chars text)) MAX_LENGTH is.short,
  is.digit,
  or-true (is_version text),
) refl
read-tells text _ (as_text v not is) = rw (version-passes text v is) refl
read-tells text _ (unread not none) = rw (
  other-fails text none,
  npm-fails text not (is_version (bare text))
      (nat_le (length (chars text)) MAX_LENGTH) (is_ascii_digit (slice_index (bare text) 0)) refl refl refl,
) refl
