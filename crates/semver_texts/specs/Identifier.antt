-- What a contract sees of an identifier: its value, without its place in memory.
use Rattle.std.specs.Prelude.{List, map, string_bytes}
use Rattle.semver_texts.specs.IdentifierValue.{IdentifierValue, numeric, alphanumeric}
use Rattle.semver_texts.specs.declared.identifier.Identifier.{Identifier}
use Rattle.semver_texts.specs.declared.identifier.Identifier.TheVariants.{Numeric, AlphaNumeric}

-- the value of an identifier
abbrev pub value_of : Identifier → IdentifierValue
value_of (Numeric n) = numeric n
value_of (AlphaNumeric text) = alphanumeric (string_bytes text)

abbrev pub values_of : List Identifier → List IdentifierValue
values_of identifiers = map value_of identifiers

-- it is a number, and not a text
abbrev pub IsNumber : Identifier → Type 0
IsNumber (Numeric n) = Unit {0}
IsNumber (AlphaNumeric text) = ⊥
