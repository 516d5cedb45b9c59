-- Worked examples: what `npm_semver::parse_range` can return for a text, and what it cannot.
use Rattle.std.proofs.Common.{◌≡◌, ℕ, Bool, true, false, List, [], ◌∷◌, Ok, Err, codes, inl, inr, refl, subst}
use Rattle.std.specs.Str.{chars}
use lib.Utf8.{encode}
use Rattle.semver_cuts.specs.Ends.{Ends}
use Rattle.semver_sets.specs.Comparator.{above}
use Rattle.semver_sets.specs.Meaning.{IsInside}
use Rattle.semver_versions.specs.Error.{IsOutOfMemory, IsRefusalAt, no_valid_ranges}
use Rattle.semver_texts.specs.Reading.{list_prefix, list_rest, prefix_of, read_build, read_extras, read_number}
use Rattle.semver_texts.specs.Reading.{read_prerelease, rest_of, skip_one, skip_plus}
use Rattle.semver_texts.specs.Version.{IsPrerelease, VersionValue, release}
use Rattle.semver_versions.specs.declared.error.SemverError.{SemverError}
use Rattle.npm_sets.specs.NpmMeaning.{NpmSetsAdmit, comparators_of, pieces_alternatives}
use Rattle.npm_sets.specs.PartialTexts.{has_none_padded, partial_of}
use Rattle.npm_sets.specs.WordTexts.{chunks_of, ending_after, pieces_of, words_from, words_of}
use Rattle.npm_sets.specs.declared.options.NpmOptions.{NpmOptions}
use Rattle.npm_semver.specs.NpmRangeAnswer.{IsNpmRangeAnswer, IsNpmRefusal}

abbrev strict : NpmOptions
strict = record { loose = false; include_prerelease = false }

abbrev loose : NpmOptions
loose = record { loose = true; include_prerelease = false }

-- a text that is refused has no sets
refused-there : (sets : List (Ends VersionValue)) → ¬ IsNpmRangeAnswer strict (codes "foo") (Ok sets)
unfolding pieces_of chunks_of ending_after words_from words_of partial_of has_none_padded comparators_of
    pieces_alternatives prefix_of rest_of read_number read_extras read_prerelease read_build list_prefix list_rest
    skip_one skip_plus chars encode
refused-there sets answer = answer.accepted refl

-- a text that is read has an error only if an allocation failed
read-there : (e : SemverError) → ¬ IsOutOfMemory e → ¬ IsNpmRangeAnswer strict (codes ">1.2.3") (Err e)
unfolding pieces_of chunks_of ending_after words_from words_of partial_of has_none_padded comparators_of
    pieces_alternatives prefix_of rest_of read_number read_extras read_prerelease read_build list_prefix list_rest
    skip_one skip_plus chars encode
read-there e other answer = elim answer.refused [ inl memory ↦ other memory | inr refusal ↦ cc refusal.1 ]

-- it has a set
sets-there : ¬ IsNpmRangeAnswer strict (codes ">1.2.3") (Ok [])
sets-there answer = elim answer.sets [ inl some ↦ some.1 refl | inr none ↦ cc none.1 ]

-- and admits what lies inside its comparator
means-there : (sets : List (Ends VersionValue)) → IsNpmRangeAnswer strict (codes ">1.2.3") (Ok sets)
    → (v : VersionValue) → NpmSetsAdmit false sets v → IsInside v (above (release 1 2 3))
unfolding pieces_of chunks_of ending_after words_from words_of partial_of has_none_padded comparators_of
    pieces_alternatives prefix_of rest_of read_number read_extras read_prerelease read_build list_prefix list_rest
    skip_one skip_plus chars encode
means-there sets answer v admits = elim ((answer.means v).0 admits) [
  | inl admitted ↦ admitted.inside.0
  | inr none ↦ absurd none
]

-- in loose form a refusal is at 0
loose-there : (e : SemverError) → IsNpmRefusal loose (codes "1 - 2 foo") e
    → IsRefusalAt (codes "1 - 2 foo") no_valid_ranges 0 e
loose-there e refusal =
    subst (λ (at : ℕ). IsRefusalAt (codes "1 - 2 foo") no_valid_ranges at e) (refusal.place.in_loose refl) refusal.told
