-- Worked examples: the prints of kinds of errors, and the line and column of an offset.
use Rattle.std.proofs.Common.{◌≡◌, ℕ, List, [], ◌∷◌, ◌++◌, Some, None, Bor, codes, refl}
use Rattle.std.specs.Fmt.{digits}
use Rattle.std.specs.declared.num.ParseIntError.{ParseIntError as IntFault}
use Rattle.semver_versions.specs.declared.error.kind.SemverErrorKind.TheVariants.{Context, MaxIntError, ParseIntError}
use Rattle.semver_versions.specs.ErrorLocation.{column_at, lines_before}
use Rattle.semver_versions.specs.ErrorText.{kind_text}

-- ---- the text of a kind

-- std describes the fault of the digits, and promises no text for it
parse_int-text : (fault : IntFault) → kind_text (ParseIntError fault) ≡ None
parse_int-text fault = refl

max_int-text : kind_text (MaxIntError 9007199254740992)
    ≡ Some (codes "Integer component of semver string is larger than JavaScript's Number.MAX_SAFE_INTEGER: 9007199254740992")
unfolding digits
max_int-text = refl

context-text : (word : Bor (List ℕ)) → word.now ≡ codes "version"
    → kind_text (Context word) ≡ Some (codes "Failed to parse version.")
context-text word is = rw is refl

-- ---- lines and columns, by bytes

-- a `š` is two bytes, 197 and 161
abbrev pub two_bytes : List ℕ
two_bytes = 197 ∷ 161 ∷ []

-- inside the second `š` of `šš` the column is 3, and not 1
column-inside : column_at (two_bytes ++ two_bytes) 3 ≡ 3
column-inside = refl

-- at a newline itself line 0, column 2; past it line 1, column 0
line-at_newline : lines_before (codes "ab\nc") 2 ≡ 0
line-at_newline = refl

column-at_newline : column_at (codes "ab\nc") 2 ≡ 2
column-at_newline = refl

line-past_newline : lines_before (codes "ab\nc") 3 ≡ 1
line-past_newline = refl

column-past_newline : column_at (codes "ab\nc") 3 ≡ 0
column-past_newline = refl

-- a carriage return ends no line
line-return : lines_before (codes "a" ++ 13 ∷ codes "b") 2 ≡ 0
line-return = refl
