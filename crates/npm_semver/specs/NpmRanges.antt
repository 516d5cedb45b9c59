-- What contracts say about npm's own reading of range texts: defined in `npm_sets`, and handed on.
pub use Rattle.npm_sets.specs.Spaces.{is_wide_space, plain, plain_text, with_plain_spaces}
pub use Rattle.npm_sets.specs.WordTexts.{Word, chunks_of, is_space, lead_of, pieces_of, sides_of, words_of}
pub use Rattle.npm_sets.specs.PartialTexts.{partial_of}
pub use Rattle.npm_sets.specs.PartialGrammar.{IsNpmPartialText, IsStrict, IsStrictPrerelease, IsUnpadded}
pub use Rattle.npm_sets.specs.PartialLimits.{BeginsTooLarge, HasLargeNumber, IsAboveLimit, IsLongPartial}
pub use Rattle.npm_sets.specs.PartialLimits.{IsNpmComponent, dotted}
pub use Rattle.npm_sets.specs.PartialLaws.{IsOneNpmPartial, IsReadAsWritten, IsRefusedByLimits}
pub use Rattle.npm_sets.specs.Rows.{hyphen_comparator, lead_comparator, no_versions}
pub use Rattle.npm_sets.specs.NpmMeaning.{AreNpmSets, IsNpmRefused, NpmAdmit, NpmSetAdmits, NpmSetsAdmit, NpmTextAdmits}
pub use Rattle.npm_sets.specs.NpmMeaning.{alternatives_of, is_unknown, piece_comparators, word_comparator}
pub use Rattle.npm_sets.specs.NpmReadingBack.{HasNpmPrint, IsNpmPrintCut, IsNpmPrintSet, IsNpmReadAsEqual}
pub use Rattle.npm_sets.specs.NpmReadingBack.{IsStrictIdentifier, NpmReadsBack}
pub use Rattle.npm_sets.specs.RefusedPlace.{HasOnePlace, IsFirstRefused, IsRefusalOffset, IsRefusedAt, IsRefusedFrom}
pub use Rattle.npm_sets.specs.declared.options.NpmOptions.{NpmOptions}
