-- Chunks and words: what is read at the start of a text is the first of its words.
use Rattle.std.proofs.Common.{◌≡◌, ◌<◌, ◌≤◌, ◌∙◌, ℕ, Bool, true, false, List, [], ◌∷◌, length, arith, refl, sym}
use Rattle.std.proofs.Common.{subst}
use Rattle.std.proofs.Common.{inl, inr}
use Rattle.std.specs.Prelude.{◌==◌, not}
use Rattle.std.proofs.lemmas.Bool.{cases_Bool, eqb-true}
use Rattle.semver_texts.specs.Characters.{BeginsWith, BeginsWithNo}
use Rattle.semver_texts.specs.Reading.{prefix_of, rest_of}
use Rattle.semver_texts.specs.Lemmas.Public.{prefix_of-rest_of, rest-short, rest_of-no, rest_of-none}
use Rattle.npm_sets.specs.WordTexts.{before_first, chunks_of, is_solid, is_space, joined}

-- ---- one character

pub not-true : (x : Bool) → not x ≡ true → x ≡ false
not-true x h1 = grind arith

-- what does not begin with white space is empty, or begins with another character
pub solid-start : (b : ℕ) (rest : List ℕ) → BeginsWithNo is_space (b ∷ rest) → BeginsWith is_solid (b ∷ rest)
solid-start b rest h1 = grind arith

pub prefix-step : (b : ℕ) (rest : List ℕ) → is_solid b ≡ true
    → prefix_of is_solid (b ∷ rest) ≡ b ∷ prefix_of is_solid rest
unfolding prefix_of
prefix-step b rest h = rw h refl

prefix-stop : (b : ℕ) (rest : List ℕ) → is_solid b ≡ false → prefix_of is_solid (b ∷ rest) ≡ []
unfolding prefix_of
prefix-stop b rest h = rw h refl

rest-step : (test : ℕ → Bool) (b : ℕ) (rest : List ℕ) → test b ≡ true → rest_of test (b ∷ rest) ≡ rest_of test rest
unfolding rest_of
rest-step test b rest h = rw h refl

pub chunks-step : (b : ℕ) (rest : List ℕ) → is_space b ≡ false → chunks_of (b ∷ rest) ≡ joined b rest (chunks_of rest)
unfolding chunks_of
chunks-step b rest h = rw h refl

pub chunks-space : (b : ℕ) (rest : List ℕ) → is_space b ≡ true → chunks_of (b ∷ rest) ≡ chunks_of rest
unfolding chunks_of
chunks-space b rest h = rw h refl

pub prefix-empty : prefix_of is_solid [] ≡ []
unfolding prefix_of
prefix-empty = refl

pub chunks-empty : chunks_of [] ≡ []
unfolding chunks_of
chunks-empty = refl

-- ---- chunks

-- leading white space changes no chunk
pub chunks-skip : (text : List ℕ) → chunks_of (rest_of is_space text) ≡ chunks_of text
chunks-skip [] = grind (arith, rest_of-none is_space)
chunks-skip (b ∷ rest) = grind (arith, cases_Bool (is_space b), rest-step, chunks-space, rest_of-none, chunks-skip rest)

-- a character before a chunk, or alone
pub joined-solid : (b c : ℕ) (rest : List ℕ) (chunks : List (List ℕ)) → is_space c ≡ false
    → joined b (c ∷ rest) chunks ≡ before_first b chunks
joined-solid b c rest chunks h = rw h refl

pub joined-space : (b c : ℕ) (rest : List ℕ) (chunks : List (List ℕ)) → is_space c ≡ true
    → joined b (c ∷ rest) chunks ≡ (b ∷ []) ∷ chunks
joined-space b c rest chunks h = rw h refl

last-chunk : (b : ℕ) → joined b [] (chunks_of []) ≡ (b ∷ prefix_of is_solid []) ∷ chunks_of (rest_of is_solid [])
unfolding prefix_of rest_of
last-chunk b = refl

-- the first chunk, and those after it
pub chunk-solid : (b : ℕ) (rest : List ℕ) → is_space b ≡ false
    → chunks_of (b ∷ rest) ≡ (b ∷ prefix_of is_solid rest) ∷ chunks_of (rest_of is_solid rest)
chunk-solid b [] h = chunks-step b [] h ∙ last-chunk b
chunk-solid b (c ∷ rest) h = elim (cases_Bool (is_space c)) [
  | inl space ↦ grind (arith, chunks-step, joined-space, prefix-stop, rest_of-none)
  | inr solid ↦ grind (arith, chunks-step, joined-solid, prefix-step, rest-step, chunk-solid c rest solid)
]

-- the same without the white space after the first
pub chunk-first : (text : List ℕ) → BeginsWith is_solid text
    → chunks_of text ≡ prefix_of is_solid text ∷ chunks_of (rest_of is_space (rest_of is_solid text))
chunk-first text h1 = grind (arith, chunk-solid, not-true, prefix-step, chunks-skip, rest-step)

-- ---- lengths

pub rest-le : (test : ℕ → Bool) (text : List ℕ) → length (rest_of test text) ≤ length text
rest-le test text = rest-short text (prefix_of test text) (rest_of test text) (sym (prefix_of-rest_of test text))

rest-lt : (test : ℕ → Bool) (text : List ℕ) → BeginsWith test text → length (rest_of test text) < length text
rest-lt test text h1 = grind (arith, rest-step, rest-le)

-- what follows the first chunk is shorter
pub after-shorter : (text rest : List ℕ) → BeginsWith is_solid text
    → rest ≡ rest_of is_space (rest_of is_solid text) → length rest < length text
after-shorter text rest h same = grind (arith, rest-lt is_solid text h, rest-le is_space (rest_of is_solid text))

-- what follows two chunks
pub both-shorter : (text rest others : List ℕ) → BeginsWith is_solid text
    → rest ≡ rest_of is_space (rest_of is_solid text) → others ≡ rest_of is_space (rest_of is_solid rest)
    → length others < length text
both-shorter text rest others h1 h2 h3 = grind (arith, after-shorter, rest-le)

-- what is left begins with no white space
pub left-solid : (text rest : List ℕ) → rest ≡ rest_of is_space text → BeginsWithNo is_space rest
left-solid text rest same = subst (BeginsWithNo is_space) (sym same) (rest_of-no is_space text)

-- ---- what `is_empty` returns

pub no-bytes_told : (text : List ℕ) (r : Bool) → r ≡ (length text == 0) → r ≡ true → text ≡ []
no-bytes_told [] r told is = grind arith
no-bytes_told (b ∷ text) r told is = grind (arith, eqb-true (length (b ∷ text)) 0 (sym told ∙ is))

pub some-bytes_told : (text : List ℕ) (r : Bool) → r ≡ (length text == 0) → r ≡ false → ¬ (text ≡ [])
some-bytes_told text r h1 h2 = grind arith

-- what is not empty and begins with no white space
pub solid-told : (text : List ℕ) (r : Bool) → r ≡ (length text == 0) → r ≡ false → BeginsWithNo is_space text
    → BeginsWith is_solid text
solid-told text r h1 h2 h3 = grind (arith, solid-start)
