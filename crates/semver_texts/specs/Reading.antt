-- What a text begins with, read from left to right: a number, or a prerelease and a build. Each definition gives a
-- value and the text that is left, or a fault. npm's own reading of range texts rests on them, and the readers of
-- bytes return what they say.
use Rattle.std.specs.Prelude.{ℕ, ◌≡◌, ◌==◌, ◌<◌, nat_le, if◌then◌else◌, Bool, true, false}
use Rattle.std.specs.Prelude.{List, [], ◌∷◌, length, map, Result, Ok, Err}
use Rattle.std.specs.Borrow.{Bor}
use Rattle.semver_texts.specs.declared.TheConstants.{MAX_SAFE_INTEGER}
use Rattle.semver_texts.specs.declared.parse.fault.Fault.{Fault}
use Rattle.semver_texts.specs.declared.parse.fault.Fault.TheVariants.{Missing, TooLarge}
use Rattle.semver_texts.specs.Characters.{dot, hyphen, is_blank, is_digit}
use Rattle.semver_texts.specs.Characters.{is_identifier_character, plus}
use Rattle.semver_texts.specs.IdentifierText.{identifier_of, parts_of}
use Rattle.semver_texts.specs.IdentifierValue.{IdentifierValue}
use Rattle.semver_texts.specs.NumberText.{number_of}

-- a value and the rest
abbrev pub Read : Type 0 → Type 0
Read A = Result (A × List ℕ) Fault

-- the second step, if the first gave a value
infixl 10 ◌>>=◌
abbrev pub ◌>>=◌ : {A B : Type 0} → Result A Fault → (A → Result B Fault) → Result B Fault
Ok x >>= f = f x
Err e >>= f = Err e

-- the longest prefix whose characters all pass the test, and the rest
unfoldable pub prefix_of : (ℕ → Bool) → List ℕ → List ℕ
prefix_of test [] = []
prefix_of test (b ∷ rest) = if test b then b ∷ prefix_of test rest else []

unfoldable pub rest_of : (ℕ → Bool) → List ℕ → List ℕ
rest_of test [] = []
rest_of test (b ∷ rest) = if test b then rest_of test rest else b ∷ rest

-- `true` if the first character passes the test
abbrev pub begins : (ℕ → Bool) → List ℕ → Bool
begins test [] = false
begins test (b ∷ rest) = test b

-- a number or a dot is missing here
abbrev pub missing : {A : Type 0} → List ℕ → Result A Fault
missing text = Err (Missing (length text))

-- all leading digits, which write at most MAX_SAFE_INTEGER
unfoldable pub read_number : List ℕ → Read ℕ
read_number text =
    if begins is_digit text then
    if nat_le (number_of (prefix_of is_digit text)) MAX_SAFE_INTEGER then Ok (
      number_of (prefix_of is_digit text),
      rest_of is_digit text,
    )
    else Err (TooLarge (length text))
    else missing text

-- `true` if a list of identifiers goes on here: with an identifier character, or a dot and one
abbrev pub goes_on : List ℕ → Bool
goes_on [] = false
goes_on (b ∷ rest) =
    if is_identifier_character b then true else if b == dot then begins is_identifier_character rest else false

-- the longest list of identifiers at the start of a text that begins with an identifier character, and the rest
unfoldable pub list_prefix : List ℕ → List ℕ
list_prefix [] = []
list_prefix (b ∷ rest) = if goes_on (b ∷ rest) then b ∷ list_prefix rest else []

unfoldable pub list_rest : List ℕ → List ℕ
list_rest [] = []
list_rest (b ∷ rest) = if goes_on (b ∷ rest) then list_rest rest else b ∷ rest

-- the identifiers of that list
abbrev pub list_values : List ℕ → List IdentifierValue
list_values text = map identifier_of (parts_of (list_prefix text))

-- that list and the rest, or no identifiers and the text `otherwise`
abbrev pub read_list_or : List ℕ → List ℕ → List IdentifierValue × List ℕ
read_list_or otherwise text =
    if begins is_identifier_character text then (list_values text, list_rest text) else ([], otherwise)

-- the bytes after a mark if the text begins with one, else the text
unfoldable pub skip_one : (ℕ → Bool) → List ℕ → List ℕ
skip_one is_mark [] = []
skip_one is_mark (b ∷ rest) = if is_mark b then rest else b ∷ rest

-- `-`
abbrev pub is_hyphen : ℕ → Bool
is_hyphen b = b == hyphen

-- an optional prerelease
unfoldable pub read_prerelease : List ℕ → List IdentifierValue × List ℕ
read_prerelease text = read_list_or text (skip_one is_hyphen text)

-- the bytes after a plus, or no bytes if the text does not begin with one
unfoldable pub skip_plus : List ℕ → List ℕ
skip_plus [] = []
skip_plus (b ∷ rest) = if b == plus then rest else []

-- an optional build
unfoldable pub read_build : List ℕ → List IdentifierValue × List ℕ
read_build text = read_list_or text (skip_plus text)

-- a prerelease and a build
unfoldable pub read_extras : List ℕ → (List IdentifierValue × List IdentifierValue) × List ℕ
read_extras text =
    let p = read_prerelease text in
    let b = read_build p.1 in
    ((p.0, b.0), b.1)

-- `true` if a word can end before this text
abbrev pub is_clean_end : List ℕ → Bool
is_clean_end [] = true
is_clean_end (b ∷ rest) = is_blank b

-- ---- how a contract sees the code

-- a function of the code returns for each byte what this test returns
abbrev pub IsTest : (ℕ → Bool → Type 0) → (ℕ → Bool) → Type 0
IsTest answers test = (b : ℕ) (r : Bool) → b < 256 → answers b r → r ≡ test b

-- the result of a reader of bytes
abbrev pub seen : {A : Type 0} → Result (A × Bor (List ℕ)) Fault → Read A
seen (Ok x) = Ok (x.0, x.1.now)
seen (Err f) = Err f
