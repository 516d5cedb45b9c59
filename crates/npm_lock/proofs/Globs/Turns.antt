-- Patterns with parts that npm leaves out, part by part.
use Rattle.std.proofs.Common.{◌≡◌, ◌∙◌, ◌==◌, ◌&&◌, ◌||◌, ◌∷◌, ◌++◌, ◌<◌, ℕ, zero, suc, List, [], Bool, true, false, ap, arith}
use Rattle.std.proofs.Common.{bytes_eq, codes, if◌then◌else◌, length, ne_eqb, not, refl, sym}
use Rattle.std.specs.List.{list_any}
use Rattle.npm_packages.specs.Folders.{below_up}
use Rattle.npm_packages.specs.LastParts.{HasNoSlash}
use Rattle.npm_lock.specs.PatternGrammar.{is_left_out, parts_of}
use Rattle.npm_lock.specs.Private.PatternSteps.{are_turned}
use Rattle.npm_lock.proofs.Globs.Parts.{is_slash, parts-alone, parts-before}

none_any : (part : List ℕ) → HasNoSlash part → list_any is_slash part ≡ false
none_any [] none = refl
none_any (b ∷ part) none = ap (λ (r : Bool). r || list_any is_slash part) (ne_eqb b 47 (none zero (omega arith)))
    ∙ none_any part (λ i small. none (suc i) (omega (arith, small)))

-- a part that leads up as all before it
abbrev up : (is_up : Bool) → (part : List ℕ) → Bool
up is_up part = is_up && bytes_eq part (codes "..")

next_turn : (is_up : Bool) (part : List ℕ) (parts : List (List ℕ)) → are_turned is_up (part ∷ parts)
    ≡ ((not (up is_up part) && is_left_out part) || are_turned (up is_up part) parts)
next_turn false part parts = refl
next_turn true part parts = by_part (bytes_eq part (codes "..")) where
  by_part : (b : Bool) → list_any is_left_out (if b then below_up parts else part ∷ parts)
      ≡ ((not b && is_left_out part) || are_turned b parts)
  by_part true = refl
  by_part false = refl

or_false : (a : Bool) → (a || false) ≡ a
or_false true = refl
or_false false = refl

none_turned : (is_up : Bool) → are_turned is_up [] ≡ false
none_turned true = refl
none_turned false = refl

module _ (is_up : Bool) (left : List ℕ) (all : Bool) (same : are_turned is_up (parts_of left) ≡ all) where
  module _ (part rest : List ℕ) (whole : left ≡ part ++ (47 ∷ rest)) (none : HasNoSlash part) where
    next : all ≡ ((not (up is_up part) && is_left_out part) || are_turned (up is_up part) (parts_of rest))
    next = sym same ∙ ap (λ (t : List ℕ). are_turned is_up (parts_of t)) whole
        ∙ ap (are_turned is_up) (parts-before part rest (none_any part none)) ∙ next_turn is_up part (parts_of rest)

    pub passed : (leads turn : Bool) → leads ≡ up is_up part → turn ≡ (not (up is_up part) && is_left_out part)
        → turn ≡ false → are_turned leads (parts_of rest) ≡ all
    passed leads turn is_leads is_turn fails = ap (λ (u : Bool). are_turned u (parts_of rest)) is_leads
        ∙ sym (next ∙ ap (λ (r : Bool). r || are_turned (up is_up part) (parts_of rest)) (sym is_turn ∙ fails))

    pub stopped : (turn : Bool) → turn ≡ (not (up is_up part) && is_left_out part) → turn ≡ true → true ≡ all
    stopped turn is_turn holds =
        sym (next ∙ ap (λ (r : Bool). r || are_turned (up is_up part) (parts_of rest)) (sym is_turn ∙ holds))

  pub ended : HasNoSlash left → (turn : Bool) → turn ≡ (not (up is_up left) && is_left_out left) → turn ≡ all
  ended none turn is_turn = is_turn ∙ sym (or_false (not (up is_up left) && is_left_out left))
      ∙ ap (λ (r : Bool). (not (up is_up left) && is_left_out left) || r) (sym (none_turned (up is_up left)))
      ∙ sym (sym same ∙ ap (are_turned is_up) (parts-alone left (none_any left none)) ∙ next_turn is_up left [])
