-- Identifiers as values: SemVer 2.0.0, sections 9 and 10.
use Rattle.std.specs.Prelude.{ℕ, List}

-- a number, or a text by its bytes
pub data IdentifierValue : Type 0 where
  numeric : ℕ → IdentifierValue
  alphanumeric : List ℕ → IdentifierValue
