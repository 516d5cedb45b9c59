-- Identifier characters as the parts of a list.
use Rattle.std.proofs.Common.{arith}
use Rattle.std.proofs.Common.{◌≡◌, ℕ, List, [], ◌∷◌, ◌++◌, refl}
use Rattle.std.proofs.lemmas.Bool.{and_parts}
use Rattle.semver_texts.specs.Characters.{AreAll, is_identifier_character, dot}
use Rattle.semver_texts.specs.IdentifierText.{parts_of}
use Rattle.semver_texts.specs.Lemmas.Texts.IdentifierReading.{parts-dot, parts-other}
use Rattle.semver_texts.specs.Lemmas.Texts.Characters.{character-no_dot}

-- the parts of identifier characters, with a dot after them or nothing
pub parts-before : (text rest : List ℕ) → AreAll is_identifier_character text
    → parts_of (text ++ (dot ∷ rest)) ≡ text ∷ parts_of rest
parts-before [] rest all = parts-dot dot rest refl
parts-before (b ∷ text) rest all = grind (arith, parts-before text rest, and_parts, parts-other, character-no_dot)

pub parts-alone : (text : List ℕ) → AreAll is_identifier_character text → parts_of text ≡ text ∷ []
parts-alone [] all = refl
parts-alone (b ∷ text) all = grind (arith, parts-alone text, and_parts, parts-other, character-no_dot)
