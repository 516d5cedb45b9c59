-- The version and the fault of a text, computed: for worked examples.
use native.Mathlib.Omega.{arith}
use Rattle.std.proofs.Common.{◌≡◌, ℕ, ◌≤◌, List, [], ◌∷◌, Ok, Err, Option, Some, None, length}
use Rattle.semver_texts.specs.declared.TheConstants.{MAX_LENGTH}
use Rattle.semver_versions.specs.Error.{Kind}
use Rattle.semver_versions.specs.Fault.{IsFault}
use Rattle.semver_versions.specs.Lemmas.Versions.FaultLemmas.{fault-computed, fault_of}
use Rattle.semver_versions.specs.Lemmas.Versions.OneReading.{read-version}
use Rattle.semver_versions.specs.Private.VersionReading.{read_dot, read_triple, read_unmarked, read_version}
use Rattle.semver_texts.specs.Reading.{Read, list_prefix, list_rest, prefix_of, read_build, read_extras, read_number}
use Rattle.semver_texts.specs.Reading.{read_prerelease, rest_of, skip_one, skip_plus}
use Rattle.semver_texts.specs.Version.{VersionValue}
use Rattle.semver_texts.specs.VersionText.{IsVersionText}

-- the fault of a text, computed
unfoldable pub computed : List ℕ → Option (Kind × ℕ)
unfolding rest_of skip_one skip_plus read_build read_extras prefix_of list_rest list_prefix read_version read_number
    read_triple read_dot read_prerelease read_unmarked
computed text = fault_of text

pub is-computed : (text : List ℕ) (kind : Kind) (offset : ℕ) → computed text ≡ Some (kind, offset)
    → IsFault text kind offset
unfolding computed
is-computed text kind offset told = fault-computed text kind offset told

abbrev with_nothing_left : VersionValue → List ℕ → Option VersionValue
with_nothing_left v [] = Some v
with_nothing_left v (b ∷ rest) = None

abbrev read_whole : Read VersionValue → Option VersionValue
read_whole (Ok read) = with_nothing_left read.0 read.1
read_whole (Err fault) = None

-- the version that a text writes, computed
unfoldable pub version_in : List ℕ → Option VersionValue
unfolding rest_of skip_one skip_plus read_build read_extras prefix_of list_rest list_prefix read_version read_number
    read_triple read_dot read_prerelease read_unmarked
version_in text = read_whole (read_version text)

all-read : (r : Read VersionValue) (v : VersionValue) → read_whole r ≡ Some v → r ≡ Ok (v, [])
all-read r v whole = grind arith

pub is-version_in : (text : List ℕ) (v : VersionValue) → length text ≤ MAX_LENGTH → version_in text ≡ Some v
    → IsVersionText text v
unfolding version_in
is-version_in text v short whole = read-version text v short (all-read (read_version text) v whole)
