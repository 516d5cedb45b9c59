-- The pieces of a text: what stands between two `||`.
use Rattle.std.proofs.Common.{◌≡◌, ◌∙◌, ℕ, false, List, [], ◌∷◌, ◌++◌}
use Rattle.std.proofs.Common.{ap, inl, inr, refl}
use Rattle.std.specs.Prelude.{◌==◌, ◌&&◌}
use Rattle.std.proofs.lemmas.Bool.{and_parts, cases_Bool, eqb-true}
use Rattle.semver_texts.specs.Characters.{bar}
use Rattle.semver_sets.specs.Division.{EndsInBar, HasBars}
use Rattle.npm_sets.specs.WordTexts.{before_first, pieces_of}

bars-step : (others : List ℕ) → pieces_of (bar ∷ bar ∷ others) ≡ [] ∷ pieces_of others
unfolding pieces_of
bars-step others = refl

pub piece-step : (b c : ℕ) (rest : List ℕ) → ((b == bar) && (c == bar)) ≡ false
    → pieces_of (b ∷ c ∷ rest) ≡ before_first b (pieces_of (c ∷ rest))
unfolding pieces_of
piece-step b c rest h = rw h refl

pub pieces-short : (b : ℕ) → pieces_of (b ∷ []) ≡ (b ∷ []) ∷ []
unfolding pieces_of
pieces-short b = refl

pub pieces-nothing : pieces_of [] ≡ [] ∷ []
unfolding pieces_of
pieces-nothing = refl

-- two characters that are not both bars
not-both : (b c : ℕ) (rest : List ℕ) → ¬ HasBars (b ∷ c ∷ rest) → ((b == bar) && (c == bar)) ≡ false
not-both b c rest free = elim (cases_Bool ((b == bar) && (c == bar))) [
  | inr differ ↦ differ
  | inl both ↦
      let parts = and_parts (b == bar) (c == bar) both in
      let first : b ≡ bar = eqb-true b bar parts.0 in
      let second : c ≡ bar = eqb-true c bar parts.1 in
      absurd (free ([], rest, λ i. first i ∷ second i ∷ rest))
]

-- a first piece without bars
pub first-piece : (piece others : List ℕ) → ¬ HasBars piece → ¬ EndsInBar piece
    → pieces_of (piece ++ (bar ∷ bar ∷ others)) ≡ piece ∷ pieces_of others
first-piece [] others free ends = bars-step others
first-piece (b ∷ []) others free ends = elim (cases_Bool (b == bar)) [
  | inl same ↦ absurd (ends ([], ap (λ (n : ℕ). n ∷ []) (eqb-true b bar same)))
  | inr other ↦
      let h : ((b == bar) && (bar == bar)) ≡ false = rw other refl in
      piece-step b bar (bar ∷ others) h ∙ ap (before_first b) (bars-step others)
]
first-piece (b ∷ c ∷ piece) others free ends =
    piece-step b c (piece ++ (bar ∷ bar ∷ others)) (not-both b c piece free)
    ∙ ap (before_first b) (first-piece (c ∷ piece) others
    (λ has. free (b ∷ has.0, has.1, ap (λ (l : List ℕ). b ∷ l) has.2))
    (λ has. ends (b ∷ has.0, ap (λ (l : List ℕ). b ∷ l) has.1)))

-- a text without bars
pub only-piece : (text : List ℕ) → ¬ HasBars text → pieces_of text ≡ text ∷ []
only-piece [] free = pieces-nothing
only-piece (b ∷ []) free = pieces-short b
only-piece (b ∷ c ∷ text) free =
    piece-step b c text (not-both b c text free)
    ∙ ap (before_first b)
    (only-piece (c ∷ text) (λ has. free (b ∷ has.0, has.1, ap (λ (l : List ℕ). b ∷ l) has.2)))
