-- What contracts say about the identifier of a whole text: defined in `semver_texts`, and handed on.
pub use Rattle.semver_texts.specs.IdentifierText.{IsIdentifierText, identifier_of}
