-- The text that each kind of error prints, byte for byte.
use Rattle.std.specs.Prelude.{ℕ, List, [], ◌++◌, Option, Some, None, codes}
use Rattle.std.specs.Fmt.{decimal}
use Rattle.semver_versions.specs.declared.error.kind.SemverErrorKind.{SemverErrorKind}
use Rattle.semver_versions.specs.declared.error.kind.SemverErrorKind.TheVariants.{Context, MaxIntError}
use Rattle.semver_versions.specs.Error.{Kind, context, incomplete, kind_of, max_int, max_length, no_valid_ranges}
use Rattle.semver_versions.specs.Error.{other, out_of_memory, parse_int}

-- no text is defined for a number above 64 bits, because std does not define the text of its error
abbrev pub text_of : Kind → Option (List ℕ)
text_of max_length = Some (codes "Semver string can't be longer than 256 characters.")
text_of incomplete = Some (codes "Incomplete input to semver parser.")
text_of parse_int = None
text_of (max_int value) =
    Some (codes "Integer component of semver string is larger than JavaScript's Number.MAX_SAFE_INTEGER: "
    ++ decimal value)
text_of (context word) = Some (codes "Failed to parse " ++ word ++ codes ".")
text_of no_valid_ranges = Some (codes "No valid ranges could be parsed")
text_of other = Some (codes "An unspecified error occurred.")
text_of out_of_memory = Some (codes "Out of memory.")

abbrev pub kind_text : SemverErrorKind → Option (List ℕ)
kind_text kind = text_of (kind_of kind)

-- the end of the text, from the number or word on
abbrev pub rest_text : SemverErrorKind → List ℕ
rest_text (MaxIntError value) = decimal value
rest_text (Context word) = word.now ++ codes "."
rest_text _ = []
