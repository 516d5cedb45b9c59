-- The key of an identifier, and of a prerelease. A number is 1 and its key. A text is 2, its bytes and 0: `rc` is 2, 114,
-- 99 and 0.
--
-- No text that a version is read from has the byte 0 or 1. A `Version` that is made by hand can have them, and then 0 is
-- written as 1 and 1, and 1 as 1 and 2. So a 0 always ends the text.
use Rattle.std.specs.Prelude.{ℕ, ◌+◌, nat_lt, if◌then◌else◌, List, [], ◌∷◌, ◌++◌}
use Rattle.semver_texts.specs.IdentifierValue.{IdentifierValue, numeric, alphanumeric}
use Rattle.semver_keys.specs.NumberKey.{number_key}

-- a byte of a text
unfoldable pub byte_key : ℕ → List ℕ
byte_key b = if nat_lt b 2 then 1 ∷ (b + 1) ∷ [] else b ∷ []

-- the bytes of a text, and 0
unfoldable pub text_key : List ℕ → List ℕ
text_key [] = 0 ∷ []
text_key (b ∷ bs) = byte_key b ++ text_key bs

-- a number comes before each text: 1 before 2
unfoldable pub identifier_key : IdentifierValue → List ℕ
identifier_key (numeric n) = 1 ∷ number_key n
identifier_key (alphanumeric text) = 2 ∷ text_key text

-- the identifiers one after another, and 0: `rc` comes before `rc.1`
unfoldable pub identifiers_key : List IdentifierValue → List ℕ
identifiers_key [] = 0 ∷ []
identifiers_key (x ∷ xs) = identifier_key x ++ identifiers_key xs

-- what follows the three numbers: 255 for a release, which comes after each of its prereleases
unfoldable pub prerelease_key : List IdentifierValue → List ℕ
prerelease_key [] = 255 ∷ []
prerelease_key (x ∷ xs) = identifiers_key (x ∷ xs)
