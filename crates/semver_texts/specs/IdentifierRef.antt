-- What a contract sees of an identifier that borrows its text.
use Rattle.semver_texts.specs.IdentifierValue.{IdentifierValue, numeric, alphanumeric}
use Rattle.semver_texts.specs.declared.identifier.borrowed.IdentifierRef.{IdentifierRef}
use Rattle.semver_texts.specs.declared.identifier.borrowed.IdentifierRef.TheVariants.{Numeric, AlphaNumeric}

-- its value
abbrev pub borrowed_value : IdentifierRef → IdentifierValue
borrowed_value (Numeric n) = numeric n
borrowed_value (AlphaNumeric text) = alphanumeric text.now
