-- The two sides of a hyphen range: the first and the third of three chunks.
use native.Mathlib.Omega.{arith}
use Rattle.std.proofs.Common.{◌≡◌, ℕ, true, false, List, [], ◌∷◌}
use Rattle.std.specs.Prelude.{◌⊎◌, Some, None}
use Rattle.semver_texts.specs.Characters.{BeginsWith, BeginsWithNo}
use Rattle.semver_texts.specs.Reading.{prefix_of, rest_of}
use Rattle.npm_sets.specs.WordTexts.{chunks_of, is_dash, is_solid, is_space}
use Rattle.npm_sets.specs.WordTexts.{sides_of}
use Rattle.npm_sets.proofs.Chunks.ChunkLemmas.{chunk-first, chunks-empty, left-solid, prefix-empty, prefix-step}
use Rattle.npm_sets.proofs.Chunks.ChunkLemmas.{solid-start}

-- a chunk and those after it, or none if there is no chunk
abbrev pub and_more : List ℕ → List (List ℕ) → List (List ℕ)
and_more [] chunks = []
and_more (b ∷ chunk) chunks = (b ∷ chunk) ∷ chunks

-- the chunks of a text that begins with no white space
pub chunks-more : (text chunk rest : List ℕ) → BeginsWithNo is_space text → chunk ≡ prefix_of is_solid text
    → rest ≡ rest_of is_space (rest_of is_solid text) → chunks_of text ≡ and_more chunk (chunks_of rest)
chunks-more text chunk rest h1 h2 h3 = grind (arith, chunks-empty, prefix-empty, solid-start, prefix-step, chunk-first)

-- a text that begins so has a chunk
pub chunks-some : (text : List ℕ) → BeginsWith is_solid text
    → (chunk : List ℕ) × (chunks : List (List ℕ)) × (chunks_of text ≡ chunk ∷ chunks)
chunks-some text h = (prefix_of is_solid text, chunks_of (rest_of is_space (rest_of is_solid text)), chunk-first text h)

sides-no_dash : (left dash : List ℕ) (more : List (List ℕ)) → is_dash dash ≡ false
    → sides_of (left ∷ and_more dash more) ≡ None
sides-no_dash left dash more h1 = grind arith

sides-no_right : (left dash right : List ℕ) (more : List (List ℕ)) → right ≡ []
    → sides_of (left ∷ and_more dash (and_more right more)) ≡ None
sides-no_right left dash right more h1 = grind arith

sides-more : (left dash right next : List ℕ) (more : List (List ℕ))
    → sides_of (left ∷ and_more dash (and_more right (next ∷ more))) ≡ None
sides-more left dash right next more = grind arith

sides-both : (left dash right : List ℕ) → is_dash dash ≡ true → ¬ (right ≡ [])
    → sides_of (left ∷ and_more dash (and_more right [])) ≡ Some (left, right)
sides-both left dash right h1 h2 = grind arith

-- the first chunk, and those of the rest
pub one-chunk : (text left rest : List ℕ) → BeginsWith is_solid text → left ≡ prefix_of is_solid text
    → rest ≡ rest_of is_space (rest_of is_solid text) → chunks_of text ≡ left ∷ chunks_of rest
one-chunk text left rest h first after = grind (arith, chunk-first text h)

-- the second chunk is no `-`
pub not-dashed : (text left first dash second : List ℕ) → chunks_of text ≡ left ∷ chunks_of first
    → BeginsWithNo is_space first → dash ≡ prefix_of is_solid first
    → second ≡ rest_of is_space (rest_of is_solid first) → is_dash dash ≡ false
    → None ≡ sides_of (chunks_of text)
not-dashed text left first dash second h1 h2 h3 h4 h5 = grind (arith, chunks-more, sides-no_dash)

-- the chunks from the third on
pub three-chunks : (text left first dash second right third : List ℕ) → chunks_of text ≡ left ∷ chunks_of first
    → BeginsWithNo is_space first → dash ≡ prefix_of is_solid first
    → second ≡ rest_of is_space (rest_of is_solid first) → right ≡ prefix_of is_solid second
    → third ≡ rest_of is_space (rest_of is_solid second)
    → chunks_of text ≡ left ∷ and_more dash (and_more right (chunks_of third))
three-chunks text left first dash second right third h1 h2 h3 h4 h5 h6 = grind (arith, chunks-more, left-solid)

-- there is no third, or there are more
pub not-sides : (text left dash right third : List ℕ)
    → chunks_of text ≡ left ∷ and_more dash (and_more right (chunks_of third))
    → (right ≡ []) ⊎ BeginsWith is_solid third → None ≡ sides_of (chunks_of text)
not-sides text left dash right third h1 h2 = grind (arith, sides-no_right, chunks-some, sides-more)

-- there are three, and the second is `-`
pub both-sides : (text left dash right third : List ℕ)
    → chunks_of text ≡ left ∷ and_more dash (and_more right (chunks_of third)) → is_dash dash ≡ true
    → ¬ (right ≡ []) → third ≡ [] → Some (left, right) ≡ sides_of (chunks_of text)
both-sides text left dash right third whole is some none =
    grind (arith, chunks-empty, sides-both left dash right is some)
