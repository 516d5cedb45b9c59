-- What the definitions say of some inputs.
use Rattle.std.proofs.Common.{◌≡◌, ℕ, [], ◌∷◌, codes, refl, inl, inr, true, false, Some, arith}
use Rattle.std.specs.Str.{chars, is_utf8, IsUtf8}
use Rattle.std.proofs.lemmas.Str.{is_utf8-from_IsUtf8}
use Rattle.semver_pairs.specs.Answer.{admitted, bad_range, bad_version, IsBadVersion, IsGoodRange, IsGoodVersion}
use Rattle.semver_pairs.specs.Lines.{divided}
use Rattle.semver_pairs.specs.Output.{IsOutput, IsOutputPrefix}
use Rattle.semver_pairs.specs.Pairs.{both, lone, lines_read, pairs_read}
use Rattle.semver_sets.specs.Comparator.{from_up_to, with_major}
use Rattle.semver_texts.specs.IdentifierValue.{alphanumeric, numeric}
use Rattle.semver_sets.specs.Meaning.{TextAdmits}
use Rattle.semver_texts.specs.Version.{VersionValue, least_of, release}
use Rattle.semver_versions.specs.Lemmas.Public.{computed, is-computed, is-version_in, version-no_fault, version_in}
use Rattle.semver_sets.proofs.Examples.RangeComputing.{accepted-by, admits-by, alternatives_in, written-by}
use Rattle.semver_sets.proofs.Examples.RangeExamples.{no_word-refused}
use Rattle.semver_versions.specs.Error.{context}
use Rattle.semver_versions.specs.Fault.{IsFault}

-- ---- lines and pairs

pub no_bytes_have_no_pair : pairs_read true [] ≡ []
no_bytes_have_no_pair = refl

pub a_newline_is_an_empty_line : pairs_read true (codes "\n") ≡ lone [] ∷ []
a_newline_is_an_empty_line = refl

pub the_rest_is_not_ended : divided (codes "1\n1.0.0") ≡ record { ended = codes "1" ∷ []; rest = codes "1.0.0" }
the_rest_is_not_ended = refl

pub the_end_ends_a_line : pairs_read true (codes "1\n1.0.0") ≡ both (codes "1") (codes "1.0.0") ∷ []
the_end_ends_a_line = refl

-- before the end was read, the rest counts for nothing
pub the_rest_is_not_yet_read : pairs_read false (codes "1\n1.0.0") ≡ []
the_rest_is_not_yet_read = refl

-- nor does a last range line, whose version line may follow
pub a_range_line_waits : pairs_read false (codes "1\n1.0.0\n2\n") ≡ both (codes "1") (codes "1.0.0") ∷ []
a_range_line_waits = refl

pub a_range_line_is_left_alone : pairs_read true (codes "1\n1.0.0\n2\n")
    ≡ both (codes "1") (codes "1.0.0") ∷ lone (codes "2") ∷ []
a_range_line_is_left_alone = refl

pub a_carriage_return_goes_with_its_newline : pairs_read true (codes "1\r\n1.0.0\r\n")
    ≡ both (codes "1") (codes "1.0.0") ∷ []
a_carriage_return_goes_with_its_newline = refl

pub only_one_goes : lines_read true (codes "1\r\r\n\r2\n\r\n") ≡ codes "1\r" ∷ codes "\r2" ∷ [] ∷ []
only_one_goes = refl

pub none_goes_at_the_end : pairs_read true (codes "1\n1.0.0\r") ≡ both (codes "1") (codes "1.0.0\r") ∷ []
none_goes_at_the_end = refl

-- ---- output

pub nothing_for_no_bytes : IsOutput [] []
nothing_for_no_bytes = refl

pub a_lone_line_has_no_version : IsOutput (codes "\n") (codes "missing version\n")
a_lone_line_has_no_version = (codes "missing version", [], refl, refl, refl)

-- if a read failed, there is no output for the rest, whatever the version would be
pub an_unended_rest_is_not_answered : ¬ IsOutputPrefix ⊥ (codes "1\n1.0.0") (codes "yes\n")
an_unended_rest_is_not_answered (true, ended, begins) = ended refl
an_unended_rest_is_not_answered (false, ended, begins) = cc begins.1

-- nor does a range line, though it is ended
pub a_range_line_is_not_answered : ¬ IsOutputPrefix ⊥ (codes "1\n") (codes "missing version\n")
a_range_line_is_not_answered (true, ended, begins) = ended refl
a_range_line_is_not_answered (false, ended, begins) = cc begins.1

-- the byte 255 begins no character
not_utf8 : ¬ IsUtf8 (255 ∷ [])
unfolding is_utf8 chars
not_utf8 text =
    let read : is_utf8 (255 ∷ []) ≡ true = is_utf8-from_IsUtf8 (255 ∷ []) text in
    cc (read)

pub bad_range_where_the_first_line_is_not_utf8 : IsOutput (255 ∷ codes "\n1.0.0\n") (codes "bad range\n")
bad_range_where_the_first_line_is_not_utf8 = (codes "bad range", [], bad_range (inl not_utf8), refl, refl)

-- ---- four pairs: `^1.2.3-rc.4` and `1.2.3-rc.5`, `foo` and `1.0.0`, `1` and `bad`, and `1` alone

-- 1.2.3-rc.4 and the like
abbrev prerelease : ℕ → VersionValue
prerelease n = record (release 1 2 3) { pre_release = alphanumeric (codes "rc") ∷ numeric n ∷ [] }

-- the caret range is written as one comparator
caret : alternatives_in (codes "^1.2.3-rc.4") ≡ Some ((from_up_to (prerelease 4) (least_of 2 0 0) ∷ []) ∷ [])
unfolding alternatives_in
caret = refl

caret-good : IsGoodRange (codes "^1.2.3-rc.4")
unfolding lib.Utf8.encode
caret-good = (
  (codes "^1.2.3-rc.4", (refl, refl)),
  accepted-by _ _ (from_up_to (prerelease 4) (least_of 2 0 0)).lower
      (written-by _ _ caret) refl,
)

caret-admits : TextAdmits (codes "^1.2.3-rc.4") (prerelease 5)
caret-admits = admits-by _ _ _ (written-by _ _ caret) refl

-- the version line is read as what it writes
version-good : IsGoodVersion (codes "1.2.3-rc.5") (prerelease 5)
unfolding version_in lib.Utf8.encode
version-good = ((codes "1.2.3-rc.5", (refl, refl)), is-version_in _ _ (omega arith) refl)

-- the third range line
one : alternatives_in (codes "1") ≡ Some ((with_major 1 ∷ []) ∷ [])
unfolding alternatives_in
one = refl

one-good : IsGoodRange (codes "1")
unfolding lib.Utf8.encode
one-good = ((codes "1", (refl, refl)), accepted-by _ _ (with_major 1).lower (written-by _ _ one) refl)

-- its version line begins with no number
word-faulty : IsFault (codes "bad") (context (codes "version")) 0
unfolding computed
word-faulty = is-computed _ _ _ refl

word-bad : IsBadVersion (codes "bad")
word-bad = inr (λ v read. version-no_fault (codes "bad") v _ _ read word-faulty)

pub four_pairs : pairs_read true (codes "^1.2.3-rc.4\n1.2.3-rc.5\nfoo\n1.0.0\n1\nbad\n1\n")
    ≡ both (codes "^1.2.3-rc.4") (codes "1.2.3-rc.5") ∷ both (codes "foo") (codes "1.0.0")
    ∷ both (codes "1") (codes "bad")
    ∷ lone (codes "1") ∷ []
four_pairs = refl

pub four_answers : IsOutput (codes "^1.2.3-rc.4\n1.2.3-rc.5\nfoo\n1.0.0\n1\nbad\n1\n")
    (codes "yes\nbad range\nbad version\nmissing version\n")
four_answers =
    let last : IsOutput (codes "1\n") (codes "missing version\n") = (codes "missing version", [], refl, refl, refl) in
    let third : IsOutput (codes "1\nbad\n1\n") (codes "bad version\nmissing version\n") =
    (codes "bad version", _, bad_version one-good word-bad, last, refl) in
    let second : IsOutput (codes "foo\n1.0.0\n1\nbad\n1\n") (codes "bad range\nbad version\nmissing version\n") =
    (codes "bad range", _, bad_range (inr no_word-refused), third, refl) in
    (codes "yes", _, admitted (prerelease 5) caret-good version-good caret-admits, second, refl)
