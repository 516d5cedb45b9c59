-- How npm reads a partial, in strict and in loose form: npm's "Range Grammar", and SemVer 2.0.0, sections 2, 9 and 10.
use Rattle.std.specs.Prelude.{ℕ, ◌==◌, ◌&&◌, ◌||◌, Bool, true, false, not, nat_le, if◌then◌else◌, length}
use Rattle.std.specs.Prelude.{List, [], ◌∷◌, Option, Some, None, Result, Ok, Err}
use Rattle.semver_texts.specs.Characters.{digit_zero, dot, hyphen, is_digit, is_identifier_character, is_x, plus}
use Rattle.semver_texts.specs.Reading.{Read, ◌>>=◌, begins, missing, read_extras, read_number, rest_of}
use Rattle.semver_texts.specs.declared.TheConstants.{MAX_LENGTH}
use Rattle.semver_texts.specs.declared.parse.fault.Fault.{Fault}
use Rattle.semver_texts.specs.declared.parse.fault.Fault.TheVariants.{TooLong}
use Rattle.semver_sets.specs.PartialText.{Partial}
use Rattle.npm_sets.specs.WordTexts.{is_empty, is_mark}

-- ---- strict form

-- the text begins with 0 and one more digit: `01`, `00.1`
abbrev pub has_leading_zero : List ℕ → Bool
has_leading_zero [] = false
has_leading_zero (b ∷ rest) = (b == digit_zero) && begins is_digit rest

-- the text begins with an identifier that is a number with a leading zero: `01.a`, but not `01a`
abbrev pub is_padded : List ℕ → Bool
is_padded text = has_leading_zero text && not (begins is_identifier_character (rest_of is_digit text))

-- no identifier after a dot and before a build is such a number
unfoldable pub has_none_padded : List ℕ → Bool
has_none_padded [] = true
has_none_padded (b ∷ rest) =
    if b == plus then true else
    if (b == dot) && is_padded rest then false else
    has_none_padded rest

-- after three components: nothing, a build, or a prerelease with its hyphen and no number with a leading zero
abbrev pub are_strict : List ℕ → Bool
are_strict [] = true
are_strict (b ∷ rest) = if b == hyphen then not (is_padded rest) && has_none_padded rest else b == plus

-- ---- components

-- a number; in strict form without leading zeros
abbrev pub number_component : Bool → List ℕ → Read (Option ℕ)
number_component loose text =
    if not loose && has_leading_zero text then missing text
    else (read_number text >>= λ n. Ok (Some n.0, n.1))

-- an x, or a number of at most 9007199254740991
abbrev pub read_component : Bool → List ℕ → Read (Option ℕ)
read_component loose [] = missing []
read_component loose (b ∷ rest) = if is_x b then Ok (None, rest) else number_component loose (b ∷ rest)

-- the text after the dot that it begins with, if it begins with one
abbrev pub after_dot : List ℕ → Option (List ℕ)
after_dot [] = None
after_dot (b ∷ rest) = if b == dot then Some rest else None

-- three components, and the extras that follow
abbrev pub with_extras : Option ℕ → Option ℕ → Option ℕ → List ℕ → Partial
with_extras major minor patch extras = record {
  major = major;
  minor = minor;
  patch = patch;
  pre_release = (read_extras extras).0.0;
  build = (read_extras extras).0.1;
}

abbrev pub read_from_extras : Bool → Option ℕ → Option ℕ → Option ℕ → List ℕ → Read Partial
read_from_extras loose major minor patch text =
    if loose || are_strict text then Ok (with_extras major minor patch text, (read_extras text).1)
    else missing text

-- a dot, the third component and extras; or no more
abbrev pub read_from_patch : Bool → Option ℕ → Option ℕ → List ℕ → Option (List ℕ) → Read Partial
read_from_patch loose major minor text None = Ok (with_extras major minor None [], text)
read_from_patch loose major minor text (Some rest) =
    read_component loose rest >>= λ patch. read_from_extras loose major minor patch.0 patch.1

-- a dot and the second component, or no more
abbrev pub read_from_minor : Bool → Option ℕ → List ℕ → Option (List ℕ) → Read Partial
read_from_minor loose major text None = Ok (with_extras major None None [], text)
read_from_minor loose major text (Some rest) =
    read_component loose rest >>= λ minor. read_from_patch loose major minor.0 minor.1 (after_dot minor.1)

-- one to three components, and extras after the third: `1`, `1.x`, `1.2.3-beta+5`
abbrev pub read_components : Bool → List ℕ → Read Partial
read_components loose text =
    read_component loose text >>= λ major. read_from_minor loose major.0 major.1 (after_dot major.1)

-- ---- the whole operand

-- nothing is left, and the text has at most 256 bytes
abbrev pub whole : List ℕ → Partial × List ℕ → Result Partial Fault
whole text read =
    if is_empty read.1 then (if nat_le (length text) MAX_LENGTH then Ok read.0 else Err (TooLong (length text)))
    else missing read.1

-- the partial that a whole operand is, after its marks: `v1.2`
unfoldable pub partial_of : Bool → List ℕ → Result Partial Fault
partial_of loose text = read_components loose (rest_of is_mark text) >>= λ read. whole text read
