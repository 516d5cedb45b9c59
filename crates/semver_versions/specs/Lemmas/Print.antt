-- The text of identifiers, in the pieces in which it is written.
use native.Mathlib.Omega.{arith}
use Rattle.std.proofs.Common.{◌≡◌, ℕ, List, [], ◌∷◌, ◌++◌, map, ap, append-nil, flat_map}
use Rattle.std.specs.List.{join_with_byte}
use Rattle.semver_texts.specs.Identifier.{value_of, values_of}
use Rattle.semver_texts.specs.IdentifierValue.{IdentifierValue}
use Rattle.semver_texts.specs.Print.{identifier_text, marked_text}
use Rattle.semver_texts.specs.declared.identifier.Identifier.{Identifier}

-- an identifier after a dot
abbrev pub dotted_text : Identifier → List ℕ
dotted_text x = 46 ∷ identifier_text (value_of x)

-- the first identifier after the mark, and each other after a dot
abbrev pub led_text : List ℕ → List Identifier → List ℕ
led_text mark [] = []
led_text mark (x ∷ xs) = mark ++ (identifier_text (value_of x) ++ flat_map dotted_text xs)

joined : (x : Identifier) (xs : List Identifier)
    → identifier_text (value_of x) ++ flat_map dotted_text xs
    ≡ join_with_byte 46 (map identifier_text (values_of (x ∷ xs)))
joined x [] = append-nil (identifier_text (value_of x))
joined x (y ∷ ys) = ap (λ (l : List ℕ). identifier_text (value_of x) ++ (46 ∷ l)) (joined y ys)

-- after a mark of one byte
pub led_text-marked : (mark : ℕ) (xs : List Identifier) → led_text (mark ∷ []) xs ≡ marked_text mark (values_of xs)
led_text-marked mark xs = grind (arith, joined)

-- the first identifier after the mark, and each other after a dot
abbrev pub led_values : List ℕ → List IdentifierValue → List ℕ
led_values mark [] = []
led_values mark (x ∷ xs) = mark ++ (identifier_text x ++ led_values (46 ∷ []) xs)

joined-values : (x : IdentifierValue) (xs : List IdentifierValue)
    → identifier_text x ++ led_values (46 ∷ []) xs ≡ join_with_byte 46 (map identifier_text (x ∷ xs))
joined-values x [] = append-nil (identifier_text x)
joined-values x (y ∷ ys) = ap (λ (l : List ℕ). identifier_text x ++ (46 ∷ l)) (joined-values y ys)

pub led_values-marked : (mark : ℕ) (xs : List IdentifierValue) → led_values (mark ∷ []) xs ≡ marked_text mark xs
led_values-marked mark xs = grind (arith, joined-values)
