-- How npm divides a range text into pieces and words: npm's "Range Grammar".
use Rattle.std.specs.Prelude.{ℕ, ◌==◌, ◌&&◌, ◌||◌, Bool, true, false, not, nat_le, if◌then◌else◌, List, [], ◌∷◌, Option}
use Rattle.std.specs.Prelude.{Some, None}
use Rattle.semver_texts.specs.Characters.{bar, caret, carriage_return, equal_sign, greater_sign, hyphen, is_digit, is_x}
use Rattle.semver_texts.specs.Characters.{less_sign, letter_v, space, tab, tilde}
use Rattle.semver_texts.specs.Reading.{begins, rest_of}
use Rattle.npm_sets.specs.declared.words.Ending.{Ending}
use Rattle.npm_sets.specs.declared.words.Ending.TheVariants.{Comparison, NoOperator, Sign, TildeGreater}
use Rattle.npm_sets.specs.declared.words.Lead.{Lead}
use Rattle.npm_sets.specs.declared.words.Lead.TheVariants.{Above, AtLeast, AtMost, Below, Caret, Equal, Nothing, Tilde}

-- white space: a space, a tab, a newline, a carriage return, a vertical tab or a form feed
abbrev pub is_space : ℕ → Bool
is_space b = (b == space) || (nat_le tab b && nat_le b carriage_return)

-- every other character
abbrev pub is_solid : ℕ → Bool
is_solid b = not (is_space b)

-- `true` if a text has no characters
abbrev pub is_empty : List ℕ → Bool
is_empty [] = true
is_empty (b ∷ rest) = false

-- the list, with a character put before its first text
abbrev pub before_first : ℕ → List (List ℕ) → List (List ℕ)
before_first b [] = (b ∷ []) ∷ []
before_first b (text ∷ texts) = (b ∷ text) ∷ texts

-- ---- pieces

-- the texts between `||`: `1` and `|2` of `1|||2`
unfoldable pub pieces_of : List ℕ → List (List ℕ)
pieces_of [] = [] ∷ []
pieces_of (b ∷ []) = (b ∷ []) ∷ []
pieces_of (b ∷ c ∷ rest) =
    if (b == bar) && (c == bar) then [] ∷ pieces_of rest else before_first b (pieces_of (c ∷ rest))

-- ---- chunks

-- a character at the start of the text after it, or alone before white space
abbrev pub joined : ℕ → List ℕ → List (List ℕ) → List (List ℕ)
joined b [] chunks = (b ∷ []) ∷ chunks
joined b (c ∷ rest) chunks = if is_space c then (b ∷ []) ∷ chunks else before_first b chunks

-- the texts between white space: `>=`, `1.2` and `<2` of ` >= 1.2  <2`
unfoldable pub chunks_of : List ℕ → List (List ℕ)
chunks_of [] = []
chunks_of (b ∷ rest) = if is_space b then chunks_of rest else joined b rest (chunks_of rest)

-- ---- words

-- one lead if this character follows, else another lead
abbrev pub lead_with : ℕ → Lead → Lead → List ℕ → Lead × List ℕ
lead_with sign longer shorter [] = (shorter, [])
lead_with sign longer shorter (b ∷ rest) = if b == sign then (longer, rest) else (shorter, b ∷ rest)

-- The lead of a chunk and its operand: `>=` and `1.2` of `>=1.2`. A lead is `>=`, `>`, `<=`, `<`, `=`, `~`, `~>`, which
-- means the same, `^`, or nothing
abbrev pub lead_of : List ℕ → Lead × List ℕ
lead_of [] = (Nothing, [])
lead_of (b ∷ rest) =
    if b == greater_sign then lead_with equal_sign AtLeast Above rest else
    if b == less_sign then lead_with equal_sign AtMost Below rest else
    if b == equal_sign then (Equal, rest) else
    if b == tilde then lead_with greater_sign Tilde Tilde rest else
    if b == caret then (Caret, rest) else
    (Nothing, b ∷ rest)

-- a word: a lead and its operand
abbrev pub Word : Type 0
Word = Lead × List ℕ

-- ---- where a word ends
--
-- npm drops the white space after an operator, so the next chunk goes on with the word: `>= 1.2` is `>=1.2`.
--   After `~` or `^` any chunk does: `~ > 1` is `~>1`, and `^ foo` is one word, which is no comparator.
--   After `>`, `<`, `=`, `>=` or `<=` a partial does, alone or with marks: `> =1` is `>=1`, and `~= 1` is `~=1`. So
--   `> ^1` are two words.
--   After `~>` any chunk does but one of marks alone: `~> >1` is `~>1`, and `~> = 1` are the words `~>` and `= 1`.
--   After two marks no chunk does: `== 1` are two words.

-- `v` or `=`, any number of which can come before a partial
abbrev pub is_mark : ℕ → Bool
is_mark b = (b == letter_v) || (b == equal_sign)

-- how a chunk ends, from its last two characters, of which the first may be missing
abbrev pub ending_with : ℕ → ℕ → Ending
ending_with before last =
    if (last == tilde) || (last == caret) then Sign else
    if (last == greater_sign) && (before == tilde) then TildeGreater else
    if (last == greater_sign) || (last == less_sign) then Comparison else
    if (last == equal_sign) && not (is_mark before) then Comparison else
    NoOperator

-- how a chunk ends that has these two characters and then the text at its end
unfoldable pub ending_after : ℕ → ℕ → List ℕ → Ending
ending_after before last [] = ending_with before last
ending_after before last (b ∷ rest) = ending_after last b rest

abbrev pub ending_of : List ℕ → Ending
ending_of chunk = ending_after 0 0 chunk

-- a digit or an x
abbrev pub begins_component : ℕ → Bool
begins_component b = is_digit b || is_x b

-- `true` if a chunk goes on with the word before it
abbrev pub is_joined : Ending → List ℕ → Bool
is_joined NoOperator chunk = false
is_joined Comparison chunk = begins begins_component (rest_of is_mark chunk)
is_joined TildeGreater chunk = not (is_empty (rest_of is_mark chunk))
is_joined Sign chunk = true

-- a lead and the chunk after it: `>` and `=1` are `>=1`, `~` and `>1` are `~>1`
abbrev pub lead_and : Lead → List ℕ → Word
lead_and Above chunk = lead_with equal_sign AtLeast Above chunk
lead_and Below chunk = lead_with equal_sign AtMost Below chunk
lead_and Tilde chunk = lead_with greater_sign Tilde Tilde chunk
lead_and Nothing chunk = (Nothing, chunk)
lead_and Equal chunk = (Equal, chunk)
lead_and AtLeast chunk = (AtLeast, chunk)
lead_and AtMost chunk = (AtMost, chunk)
lead_and Caret chunk = (Caret, chunk)

-- `=` and nothing else
abbrev pub is_equal_sign : List ℕ → Bool
is_equal_sign [] = false
is_equal_sign (b ∷ rest) = (b == equal_sign) && is_empty rest

-- A word with one more chunk. A `=` after the lead has no meaning; a word with any other operator after its lead is no
-- comparator, whatever follows
abbrev pub word_and : Word → List ℕ → Word
word_and word chunk =
    if is_empty word.1 then lead_and word.0 chunk else
    if is_equal_sign word.1 then (word.0, chunk) else
    word

-- a word that ends with an operator has no operand
abbrev pub ended : Word → Ending → Word
ended word NoOperator = word
ended word Comparison = (word.0, [])
ended word TildeGreater = (word.0, [])
ended word Sign = (word.0, [])

-- the words of a piece, from the first and its ending, and the chunks that follow
unfoldable pub words_from : Word → Ending → List (List ℕ) → List Word
words_from word ending [] = ended word ending ∷ []
words_from word ending (chunk ∷ rest) =
    if is_joined ending chunk then words_from (word_and word chunk) (ending_of chunk) rest
    else ended word ending ∷ words_from (lead_of chunk) (ending_of chunk) rest

-- the words of a piece, from its chunks
unfoldable pub words_of : List (List ℕ) → List Word
words_of [] = []
words_of (chunk ∷ rest) = words_from (lead_of chunk) (ending_of chunk) rest

-- ---- hyphen ranges

-- `-` and nothing else
abbrev pub is_dash : List ℕ → Bool
is_dash [] = false
is_dash (b ∷ rest) = (b == hyphen) && is_empty rest

-- the two sides, if the chunks of a piece are three and the second is `-`: `1.2` and `3` of `1.2 - 3`
abbrev pub sides_of : List (List ℕ) → Option (List ℕ × List ℕ)
sides_of [] = None
sides_of (left ∷ []) = None
sides_of (left ∷ dash ∷ []) = None
sides_of (left ∷ dash ∷ right ∷ []) = if is_dash dash then Some (left, right) else None
sides_of (left ∷ dash ∷ right ∷ more ∷ rest) = None
