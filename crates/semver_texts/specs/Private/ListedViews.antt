-- How a text of identifiers is divided without building them.
use Rattle.std.specs.Prelude.{◌≡◌, ◌==◌, ◌<◌, ℕ, Bool, List, ◌∷◌, length, not}
use Rattle.semver_texts.specs.Characters.{AreAll, BeginsWith, dot, is_identifier_character}
use Rattle.semver_texts.specs.IdentifierText.{IsListed, identifier_of, identifiers_of}
use Rattle.semver_texts.specs.IdentifierValue.{IdentifierValue, numeric}

-- a list of identifiers and the rest, as text
pub record IsListSplit (read : List IdentifierValue × List ℕ) (list rest : List ℕ) : Type 0 where
  pub values : identifiers_of list ≡ read.0
  pub listed : IsListed list
  pub rest_is : rest ≡ read.1

-- the first identifier, and the identifiers after it
pub record IsFirstSplit (text part rest : List ℕ) : Type 0 where
  pub some : BeginsWith is_identifier_character part
  pub characters : AreAll is_identifier_character part
  pub values : identifiers_of text ≡ identifier_of part ∷ identifiers_of rest
  pub listed : IsListed rest

-- the number that is the first identifier, and the identifiers after it
pub record IsNumberSplit (text : List ℕ) (number : ℕ) (rest : List ℕ) : Type 0 where
  pub values : identifiers_of text ≡ numeric number ∷ identifiers_of rest
  pub listed : IsListed rest
  pub shorter : length rest < length text

-- no dot, which ends an identifier of a list
abbrev pub is_inner : ℕ → Bool
is_inner b = not (b == dot)
