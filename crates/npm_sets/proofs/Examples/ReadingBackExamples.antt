-- Worked examples: how npm's reading reads prints of ranges, and which prints it cannot read. The alternatives of each
-- print are computed over the definitions.
use Rattle.std.proofs.Common.{◌≡◌, Bool, true, false, List, [], ◌∷◌, map, refl, codes, arith}
use Rattle.std.specs.Fmt.{digits}
use Rattle.semver_cuts.specs.Ends.{Ends}
use Rattle.semver_texts.specs.IdentifierValue.{alphanumeric, numeric}
use Rattle.semver_texts.specs.Reading.{list_prefix, list_rest, prefix_of, read_build, read_extras, read_number}
use Rattle.semver_texts.specs.Reading.{read_prerelease, rest_of, skip_one, skip_plus}
use Rattle.semver_texts.specs.Version.{VersionValue, least_of, release, with_pre_release}
use Rattle.semver_sets.specs.Comparator.{Comparator, above, at_least, at_most, below, exactly, from_up_to}
use Rattle.semver_sets.specs.Merging.{all_cuts}
use Rattle.semver_sets.specs.RangePrint.{range_text}
use Rattle.npm_sets.specs.NpmMeaning.{alternatives_of, comparators_of, pieces_alternatives}
use Rattle.npm_sets.specs.NpmReadingBack.{HasNpmPrint, IsNpmPrintSet, IsStrictIdentifier}
use Rattle.npm_sets.specs.PartialTexts.{has_none_padded, partial_of}
use Rattle.npm_sets.specs.WordTexts.{chunks_of, ending_after, pieces_of, words_from, words_of}
use Rattle.npm_sets.specs.declared.options.NpmOptions.{NpmOptions}

abbrev options_of : Bool → Bool → NpmOptions
options_of loose pre = record { loose = loose; include_prerelease = pre }

-- sets, and the alternatives of their print
abbrev Row : Type 0
Row = List (Ends VersionValue) × List (List Comparator)

abbrev AreComputed : NpmOptions → List Row → Type 0
AreComputed options rows =
    map (λ (row : Row). alternatives_of options (range_text row.0)) rows ≡ map (λ (row : Row). row.1) rows

-- `1.2.3+a`
abbrev built : VersionValue
built = record (release 1 2 3) { build = alphanumeric (codes "a") ∷ [] }

-- `1.2.3-0100000000000000000000`: a text of digits that is too large for a number, with a leading zero
abbrev padded : VersionValue
padded = record (release 1 2 3) { pre_release = alphanumeric (codes "0100000000000000000000") ∷ [] }

-- ---- prints that are read back

abbrev rows : List Row
rows =
    -- `*`
    (all_cuts ∷ [], (all_cuts ∷ []) ∷ [])
    -- `>=1.2.3 <2.0.0-0`
    ∷ (from_up_to (release 1 2 3) (least_of 2 0 0) ∷ [], (at_least (release 1 2 3) ∷ below (least_of 2 0 0) ∷ []) ∷ [])
    -- `1.2.3-4||>5.0.0`
    ∷ (
      exactly (with_pre_release 1 2 3 4) ∷ above (release 5 0 0) ∷ [],
      (exactly (with_pre_release 1 2 3 4) ∷ []) ∷ (above (release 5 0 0) ∷ []) ∷ [],
    )
    -- `<=1.2.3+a`, which is read without the build
    ∷ (at_most built ∷ [], (at_most (release 1 2 3) ∷ []) ∷ [])
    ∷ []

read-strict : AreComputed (options_of false false) rows
unfolding pieces_of chunks_of ending_after words_from words_of partial_of has_none_padded comparators_of pieces_alternatives prefix_of rest_of
    read_number read_extras read_prerelease read_build list_prefix list_rest skip_one skip_plus digits
read-strict = refl

read-prereleases : AreComputed (options_of true true) rows
unfolding pieces_of chunks_of ending_after words_from words_of partial_of has_none_padded comparators_of pieces_alternatives prefix_of rest_of
    read_number read_extras read_prerelease read_build list_prefix list_rest skip_one skip_plus digits
read-prereleases = refl

-- ---- prints that are refused

-- a number above 9007199254740991, where `^9007199254740991` ends; and in strict form the padded identifier
abbrev refused : List Row
refused = (below (least_of 9007199254740992 0 0) ∷ [], []) ∷ (at_least padded ∷ [], []) ∷ []

read-refused : AreComputed (options_of false false) refused
unfolding pieces_of chunks_of ending_after words_from words_of partial_of has_none_padded comparators_of pieces_alternatives prefix_of rest_of
    read_number read_extras read_prerelease read_build list_prefix list_rest skip_one skip_plus digits
read-refused = refl

-- ---- the limits

identifiers : IsStrictIdentifier (numeric 0) × IsStrictIdentifier (alphanumeric (codes "01a"))
    × ¬ IsStrictIdentifier (alphanumeric (codes "0100000000000000000000"))
identifiers = (tt, refl, λ is. cc is)

numbers : ¬ HasNpmPrint true (release 9007199254740992 0 0)
numbers print = omega (arith, print.numbers.major)

padded-strict : ¬ HasNpmPrint false padded
padded-strict print = cc (print.strict refl).0

ends : IsNpmPrintSet false all_cuts × ¬ IsNpmPrintSet true (below (least_of 0 9007199254740992 0))
ends = (record { lower = tt; upper = tt }, λ print. omega (arith, print.upper.numbers.minor))
