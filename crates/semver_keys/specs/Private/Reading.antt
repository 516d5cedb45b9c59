-- What readers of keys compute: a value whose key the bytes begin with, and the rest of them.
use Rattle.std.specs.Prelude.{◌≡◌, ◌<◌, ◌≢◌, ◌^◌, ◌++◌, ℕ, List, [], ◌∷◌}
use Rattle.std.specs.List.{AllByRecursion, flat_map}
use Rattle.semver_texts.specs.IdentifierValue.{IdentifierValue}
use Rattle.semver_texts.specs.declared.triple.Triple.{Triple}
use Rattle.semver_versions.specs.VersionSteps.{IsIdentifier}
use Rattle.semver_keys.specs.declared.read.identifier.Part.{Part}
use Rattle.semver_keys.specs.declared.read.identifier.Part.TheVariants.{Number, Text}
use Rattle.semver_keys.specs.IdentifierKey.{byte_key, identifier_key, identifiers_key, prerelease_key, text_key}
use Rattle.semver_keys.specs.NumberKey.{number_key}
use Rattle.semver_keys.specs.VersionKey.{HasWord}

-- the bytes are the key of this number, and the rest
pub record IsNumberRead (key : List ℕ) (n : ℕ) (rest : List ℕ) : Type 0 where
  pub word : n < 2 ^ 64
  pub whole : number_key n ++ rest ≡ key

-- they begin with the key of no number
abbrev pub BeginsWithNoNumber : List ℕ → Type 0
BeginsWithNoNumber key = (n : ℕ) (rest : List ℕ) → n < 2 ^ 64 → number_key n ++ rest ≢ key

-- the bytes are what a byte of a text is written as, and the rest
abbrev pub IsByteRead : List ℕ → ℕ → List ℕ → Type 0
IsByteRead key b rest = byte_key b ++ rest ≡ key

-- they begin with no such byte
abbrev pub BeginsWithNoByte : List ℕ → Type 0
BeginsWithNoByte key = (b : ℕ) (rest : List ℕ) → byte_key b ++ rest ≢ key

-- what the bytes of a text are written as, without the 0 that ends them
abbrev pub written : List ℕ → List ℕ
written text = flat_map byte_key text

-- these bytes are what a text is written as
pub record IsWritten (bytes : List ℕ) : Type 0 where
  pub text : List ℕ
  pub bytes_are : written text ≡ bytes

-- the bytes are those of a text, as they are written, 0 and the rest
pub record IsTextRead (key bytes rest : List ℕ) : Type 0 where
  pub is_written : IsWritten bytes
  pub whole : bytes ++ 0 ∷ rest ≡ key

-- they begin with the key of no text
abbrev pub BeginsWithNoText : List ℕ → Type 0
BeginsWithNoText key = (text rest : List ℕ) → text_key text ++ rest ≢ key

-- the key of an identifier, as it was found: a text is not read yet
abbrev pub part_key : Part → List ℕ
part_key (Number n) = 1 ∷ number_key n
part_key (Text bytes) = 2 ∷ (bytes.now ++ 0 ∷ [])

-- a number of 64 bits, or what a text is written as
abbrev pub IsPart : Part → Type 0
IsPart (Number n) = n < 2 ^ 64
IsPart (Text bytes) = IsWritten bytes.now

-- the bytes are the key of an identifier, and the rest
pub record IsPartRead (key : List ℕ) (part : Part) (rest : List ℕ) : Type 0 where
  pub is_part : IsPart part
  pub whole : part_key part ++ rest ≡ key

-- they begin with the key of no identifier
abbrev pub BeginsWithNoIdentifier : List ℕ → Type 0
BeginsWithNoIdentifier key = (x : IdentifierValue) (rest : List ℕ) → HasWord x → identifier_key x ++ rest ≢ key

-- the identifier has this key
pub record IsIdentifierOf (part : Part) (x : IdentifierValue) : Type 0 where
  pub word : HasWord x
  pub key_is : identifier_key x ≡ part_key part

-- no identifier of the Rust type has it
abbrev pub IsOfNoIdentifier : Part → Type 0
IsOfNoIdentifier part = (x : IdentifierValue) → IsIdentifier x → identifier_key x ≢ part_key part

-- the bytes are the key of these identifiers, with the 0 that ends them
pub record AreIdentifiersOf (key : List ℕ) (xs : List IdentifierValue) : Type 0 where
  pub words : AllByRecursion HasWord xs
  pub key_is : identifiers_key xs ≡ key

-- they are that of no identifiers
abbrev pub IsOfNoIdentifiers : List ℕ → Type 0
IsOfNoIdentifiers key = (xs : List IdentifierValue) → AllByRecursion IsIdentifier xs → identifiers_key xs ≢ key

-- the bytes are what follows the three numbers, for these identifiers
pub record IsPrereleaseOf (key : List ℕ) (xs : List IdentifierValue) : Type 0 where
  pub words : AllByRecursion HasWord xs
  pub key_is : prerelease_key xs ≡ key

-- they follow no three numbers
abbrev pub IsOfNoPrerelease : List ℕ → Type 0
IsOfNoPrerelease key = (xs : List IdentifierValue) → AllByRecursion IsIdentifier xs → prerelease_key xs ≢ key

-- the keys of three numbers
abbrev pub triple_key : ℕ → ℕ → ℕ → List ℕ → List ℕ
triple_key major minor patch rest = number_key major ++ (number_key minor ++ (number_key patch ++ rest))

-- the bytes are the keys of three numbers, and the rest
pub record IsTripleRead (key : List ℕ) (triple : Triple) (rest : List ℕ) : Type 0 where
  pub major : triple.major < 2 ^ 64
  pub minor : triple.minor < 2 ^ 64
  pub patch : triple.patch < 2 ^ 64
  pub whole : triple_key triple.major triple.minor triple.patch rest ≡ key

-- they begin with the keys of no three numbers
abbrev pub BeginsWithNoTriple : List ℕ → Type 0
BeginsWithNoTriple key = (major minor patch : ℕ) (rest : List ℕ) → major < 2 ^ 64 → minor < 2 ^ 64 → patch < 2 ^ 64
    → triple_key major minor patch rest ≢ key
