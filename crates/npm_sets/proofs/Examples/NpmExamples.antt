-- Worked examples: the alternatives of range texts in npm's own reading. Each row is computed over the definitions.
use Rattle.std.proofs.Common.{◌≡◌, ℕ, Bool, true, false, List, [], ◌∷◌, map, refl, codes}
use Rattle.semver_cuts.specs.declared.cut.Cut.TheVariants.{Before, After}
use Rattle.semver_texts.specs.IdentifierValue.{alphanumeric}
use Rattle.semver_texts.specs.Reading.{list_prefix, list_rest, prefix_of, read_build, read_extras, read_number}
use Rattle.semver_texts.specs.Reading.{read_prerelease, rest_of, skip_one, skip_plus}
use Rattle.semver_texts.specs.Version.{VersionValue, least_of, release}
use Rattle.semver_sets.specs.Comparator.{Comparator, at_least, at_most, below, exactly, from_up_to}
use Rattle.semver_sets.specs.Merging.{all_cuts}
use Rattle.npm_sets.specs.NpmMeaning.{alternatives_of, comparators_of, pieces_alternatives}
use Rattle.npm_sets.specs.PartialTexts.{has_none_padded, partial_of}
use Rattle.npm_sets.specs.Rows.{no_versions}
use Rattle.npm_sets.specs.WordTexts.{chunks_of, ending_after, pieces_of, words_from, words_of}
use Rattle.npm_sets.specs.declared.options.NpmOptions.{NpmOptions}

-- each text has these alternatives
abbrev AreComputed : NpmOptions → List (List ℕ × List (List Comparator)) → Type 0
AreComputed options rows =
    map (λ (row : List ℕ × List (List Comparator)). alternatives_of options row.0) rows
    ≡ map (λ (row : List ℕ × List (List Comparator)). row.1) rows

abbrev options_of : Bool → Bool → NpmOptions
options_of loose pre = record { loose = loose; include_prerelease = pre }

-- `1.2.3-a`
abbrev prerelease : ℕ → ℕ → ℕ → VersionValue
prerelease m n p = record (release m n p) { pre_release = alphanumeric (codes "a") ∷ [] }

-- ---- strict form, without prereleases

abbrev strict_rows : List (List ℕ × List (List Comparator))
strict_rows =
    (codes "", (all_cuts ∷ []) ∷ [])
    ∷ (codes "*", (all_cuts ∷ []) ∷ [])
    ∷ (
      codes ">= 1.2  <2 || 3",
      (at_least (release 1 2 0) ∷ below (least_of 2 0 0) ∷ [])
          ∷ (from_up_to (release 3 0 0) (least_of 4 0 0) ∷ []) ∷ [],
    )
    ∷ (codes "^1 ||", (from_up_to (release 1 0 0) (least_of 2 0 0) ∷ []) ∷ (all_cuts ∷ []) ∷ [])
    ∷ (codes "v1.2.3-a+b", (exactly (prerelease 1 2 3) ∷ []) ∷ [])
    ∷ (codes "1.x.3", (from_up_to (release 1 0 0) (least_of 2 0 0) ∷ []) ∷ [])
    ∷ (codes ">1.2", (at_least (release 1 3 0) ∷ []) ∷ [])
    ∷ (codes ">*", (no_versions ∷ []) ∷ [])
    ∷ (codes "<=20", (below (least_of 21 0 0) ∷ []) ∷ [])
    ∷ (codes "<=1.2.3", (at_most (release 1 2 3) ∷ []) ∷ [])
    ∷ (codes "~> 1.2", (from_up_to (release 1 2 0) (least_of 1 3 0) ∷ []) ∷ [])
    ∷ (codes "^0.0.3-a", (from_up_to (prerelease 0 0 3) (least_of 0 0 4) ∷ []) ∷ [])
    ∷ (codes "^0.2.3", (from_up_to (release 0 2 3) (least_of 0 3 0) ∷ []) ∷ [])
    ∷ (codes "1.2 - 3.4.5", (record { lower = Before (release 1 2 0); upper = After (release 3 4 5) } ∷ []) ∷ [])
    ∷ (codes "~= 1.2.3", (from_up_to (release 1 2 3) (least_of 1 3 0) ∷ []) ∷ [])
    ∷ (codes "~ > = 1", [])
    ∷ (codes "~ = 1", (from_up_to (release 1 0 0) (least_of 2 0 0) ∷ []) ∷ [])
    ∷ (codes "~> >=1", (from_up_to (release 1 0 0) (least_of 2 0 0) ∷ []) ∷ [])
    ∷ (codes "~> = 1", [])
    ∷ (codes "^= 1 > =2", (from_up_to (release 1 0 0) (least_of 2 0 0) ∷ at_least (release 2 0 0) ∷ []) ∷ [])
    ∷ (codes "> ^1", [])
    ∷ (codes "== 1", [])
    ∷ (codes "1 - 2 3", [])
    ∷ (codes "1 foo", [])
    ∷ (codes "foo || 1", [])
    ∷ (codes "01.2.3", [])
    ∷ (codes "1.2.3a", [])
    ∷ (codes "1.2.3-01", [])
    ∷ (codes "9007199254740992", [])
    ∷ []

strict-computed : AreComputed (options_of false false) strict_rows
unfolding pieces_of chunks_of ending_after words_from words_of partial_of has_none_padded comparators_of pieces_alternatives prefix_of rest_of
    read_number read_extras read_prerelease read_build list_prefix list_rest skip_one skip_plus
strict-computed = refl

-- ---- strict form, with prereleases

abbrev prerelease_rows : List (List ℕ × List (List Comparator))
prerelease_rows =
    (codes "1.2", (from_up_to (least_of 1 2 0) (least_of 1 3 0) ∷ []) ∷ [])
    ∷ (codes ">1", (at_least (least_of 2 0 0) ∷ []) ∷ [])
    ∷ (codes "^1.2.3", (from_up_to (release 1 2 3) (least_of 2 0 0) ∷ []) ∷ [])
    ∷ (codes "^0.2.3", (from_up_to (least_of 0 2 3) (least_of 0 3 0) ∷ []) ∷ [])
    ∷ (codes "~1", (from_up_to (release 1 0 0) (least_of 2 0 0) ∷ []) ∷ [])
    ∷ (codes "1.2.3 - 2.3.4", (from_up_to (least_of 1 2 3) (least_of 2 3 5) ∷ []) ∷ [])
    ∷ []

prereleases-computed : AreComputed (options_of false true) prerelease_rows
unfolding pieces_of chunks_of ending_after words_from words_of partial_of has_none_padded comparators_of pieces_alternatives prefix_of rest_of
    read_number read_extras read_prerelease read_build list_prefix list_rest skip_one skip_plus
prereleases-computed = refl

-- ---- loose form

abbrev loose_rows : List (List ℕ × List (List Comparator))
loose_rows =
    (codes "foo >=01.2", (at_least (release 1 2 0) ∷ []) ∷ [])
    ∷ (codes "1.2.3a || foo", (exactly (prerelease 1 2 3) ∷ []) ∷ [])
    ∷ (codes "> ^1", (from_up_to (release 1 0 0) (least_of 2 0 0) ∷ []) ∷ [])
    ∷ (codes ">> 1", [])
    ∷ (codes "~ ^ 1", [])
    ∷ (codes "foo> 1 || 2", (from_up_to (release 2 0 0) (least_of 3 0 0) ∷ []) ∷ [])
    ∷ (codes "== 1", (from_up_to (release 1 0 0) (least_of 2 0 0) ∷ []) ∷ [])
    ∷ (codes "foo || bar", [])
    ∷ (codes "1 9007199254740992", [])
    ∷ []

loose-computed : AreComputed (options_of true false) loose_rows
unfolding pieces_of chunks_of ending_after words_from words_of partial_of has_none_padded comparators_of pieces_alternatives prefix_of rest_of
    read_number read_extras read_prerelease read_build list_prefix list_rest skip_one skip_plus
loose-computed = refl
