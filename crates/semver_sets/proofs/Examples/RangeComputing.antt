-- What a text means, by tests that compute: for worked examples.
use Rattle.std.proofs.Common.{◌≡◌, ◌↔◌, ℕ, zero, suc, Bool, true, false, List, [], ◌∷◌, ◌++◌, Option, Some, None}
use Rattle.std.proofs.Common.{refl, subst, inl, inr}
use Rattle.std.proofs.lemmas.Bool.{and_from, and_parts, or_cases}
use Rattle.std.specs.List.{AllByRecursion, list_all, list_any}
use Rattle.std.specs.Ordering.{is_lt}
use Rattle.std.specs.Prelude.{map, ◌&&◌, not}
use Rattle.semver_cuts.specs.declared.cut.Cut.{Cut}
use Rattle.semver_cuts.specs.Cut.{cut_cmp}
use Rattle.semver_cuts.specs.Lemmas.Ends.{at_most-below, lt-from_below}
use Rattle.semver_texts.specs.Characters.{is_blank}
use Rattle.semver_sets.specs.Comparator.{Comparator}
use Rattle.semver_sets.specs.Division.{IsAlternative, IsWritten}
use Rattle.semver_sets.specs.Meaning.{AnyByRecursion, GiveSet, IsRefused}
use Rattle.semver_sets.specs.Meaning.{TextAdmits}
use Rattle.semver_texts.specs.Comparison.{version_cmp}
use Rattle.semver_texts.specs.Lemmas.Public.{version_total}
use Rattle.semver_sets.specs.Lemmas.Deciding.{Holds, admit, admit-iff, all-iff, any-iff, elements-iff, has_elements}
use Rattle.semver_sets.specs.Lemmas.Deciding.{holds}
use Rattle.semver_sets.specs.Lemmas.Deciding.{holds-iff}
use Rattle.semver_sets.specs.Private.PieceReading.{piece_at}
use Rattle.semver_texts.specs.Reading.{list_prefix, list_rest, prefix_of, read_build, read_extras}
use Rattle.semver_texts.specs.Reading.{read_number}
use Rattle.semver_texts.specs.Reading.{read_prerelease, rest_of, skip_one, skip_plus}
use Rattle.semver_texts.specs.Version.{VersionValue}
use Rattle.semver_sets.specs.Private.WordReading.{leading_or_none, read_component, read_components, read_hyphen}
use Rattle.semver_sets.specs.Private.WordReading.{read_lead, read_operator, read_partial, read_right, read_simple}
use Rattle.semver_sets.specs.Private.WordReading.{read_word}
use Rattle.semver_sets.proofs.Ranges.AlternativeLemmas.{AreLeft, left-more, reads-start, written-unique}
use Rattle.semver_sets.proofs.Ranges.DivisionLemmas.{Completes, completes-end, completes-leading, completes-more}
use Rattle.semver_sets.specs.Private.WordViews.{listed}
use Rattle.semver_sets.proofs.Ranges.MeaningLemmas.{AdmitSome, NoneGive, none-from_refused, refused-from_none}

-- ---- the comparators of an alternative

-- word by word, after those that are done; nothing if the text has n words or more
unfoldable pub read_words : ℕ → List ℕ → List Comparator → Option (List Comparator)
read_words zero rest done = None
read_words (suc n) [] done = Some done
read_words (suc n) (b ∷ rest) done =
    read_words n (rest_of is_blank (read_word (b ∷ rest)).1) (done ++ listed (read_word (b ∷ rest)).0)

words-complete : (n : ℕ) (text rest : List ℕ) (done all : List Comparator) → Completes text done rest
    → read_words n rest done ≡ Some all → IsAlternative text all
unfolding read_words
words-complete zero text rest done all completes read = cc read
words-complete (suc n) text [] done all completes read =
    let same : done ≡ all = cc read in
    subst (IsAlternative text) same (completes-end text done completes)
words-complete (suc n) text (b ∷ rest) done all completes read =
    words-complete n text _ _ all
    (completes-more text done (b ∷ rest) (read_word (b ∷ rest)).0 (read_word (b ∷ rest)).1 completes refl) read

-- the comparators of an alternative of fewer than nine words
unfoldable pub comparators_in : List ℕ → Option (List Comparator)
unfolding read_words read_word read_hyphen read_simple read_right read_partial read_components read_component read_lead
    read_operator rest_of prefix_of skip_one skip_plus read_number read_extras read_prerelease read_build list_prefix
    list_rest
comparators_in text =
    let start = leading_or_none (read_right text) text in
    read_words 9 (rest_of is_blank start.1) (listed start.0)

alternative-by : (text : List ℕ) (all : List Comparator) → comparators_in text ≡ Some all → IsAlternative text all
unfolding comparators_in
alternative-by text all read =
    let start = leading_or_none (read_right text) text in
    words-complete 9 text (rest_of is_blank start.1) (listed start.0) all
    (completes-leading text (read_right text) start.0 start.1 refl refl) read

-- ---- the alternatives of a text

-- the first alternative before the others, where both are there
abbrev pub both_read : Option (List Comparator) → Option (List (List Comparator)) → Option (List (List Comparator))
both_read None others = None
both_read (Some first) None = None
both_read (Some first) (Some others) = Some (first ∷ others)

-- the alternatives of the remaining text, each without the blanks with which it begins; nothing if there are n or more
unfoldable pub read_left : ℕ → Option (List ℕ) → Option (List (List Comparator))
unfolding piece_at comparators_in
read_left zero left = None
read_left (suc n) None = Some []
read_left (suc n) (Some rest) =
    both_read (comparators_in (rest_of is_blank (piece_at rest).0)) (read_left n (piece_at rest).1)

-- the alternatives of a text of fewer than nine
unfoldable pub alternatives_in : List ℕ → Option (List (List Comparator))
unfolding piece_at comparators_in read_left
alternatives_in text = both_read (comparators_in (piece_at text).0) (read_left 8 (piece_at text).1)

left-from : (n : ℕ) (rest piece : List ℕ) (left : Option (List ℕ)) (first : Option (List Comparator))
    (others : Option (List (List Comparator))) (all : List (List Comparator)) → piece_at rest ≡ (piece, left)
    → comparators_in (rest_of is_blank piece) ≡ first → read_left n left ≡ others
    → ((later : List (List Comparator)) → read_left n left ≡ Some later → AreLeft left later)
    → both_read first others ≡ Some all → AreLeft (Some rest) all
left-from n rest piece left None others all at one more lefts read = cc read
left-from n rest piece left (Some first) None all at one more lefts read = cc read
left-from n rest piece left (Some first) (Some later) all at one more lefts read =
    let same : first ∷ later ≡ all = cc read in
    subst (AreLeft (Some rest)) same
    (left-more rest piece left first later at (alternative-by (rest_of is_blank piece) first one) (lefts later more))

left-by : (n : ℕ) (left : Option (List ℕ)) (all : List (List Comparator)) → read_left n left ≡ Some all
    → AreLeft left all
unfolding read_left
left-by zero left all read = cc read
left-by (suc n) None all read = cc read
left-by (suc n) (Some rest) all read =
    left-from n rest (piece_at rest).0 (piece_at rest).1 _ _ all refl refl refl (left-by n (piece_at rest).1) read

written-from : (text piece : List ℕ) (left : Option (List ℕ)) (first : Option (List Comparator))
    (others : Option (List (List Comparator))) (all : List (List Comparator)) → piece_at text ≡ (piece, left)
    → comparators_in piece ≡ first → read_left 8 left ≡ others → both_read first others ≡ Some all
    → IsWritten text all
written-from text piece left None others all at one more read = cc read
written-from text piece left (Some first) None all at one more read = cc read
written-from text piece left (Some first) (Some later) all at one more read =
    let same : first ∷ later ≡ all = cc read in
    let reads = reads-start text piece left first at (alternative-by piece first one) in
    subst (IsWritten text) same (reads.whole later (left-by 8 left later more))

pub written-by : (text : List ℕ) (all : List (List Comparator)) → alternatives_in text ≡ Some all → IsWritten text all
unfolding alternatives_in
written-by text all read = written-from text (piece_at text).0 (piece_at text).1 _ _ all refl refl refl read

-- texts of one alternative, and the comparators that they write
abbrev pub AreComputed : List (List ℕ × List Comparator) → Type 0
AreComputed rows = map (λ (row : List ℕ × List Comparator). alternatives_in row.0) rows
    ≡ map (λ (row : List ℕ × List Comparator). Some (row.1 ∷ [])) rows

abbrev pub AreWritten : List (List ℕ × List Comparator) → Type 0
AreWritten rows = AllByRecursion (λ (row : List ℕ × List Comparator). IsWritten row.0 (row.1 ∷ [])) rows

-- equal lists have the same first element, and the same others
pub first-same : {X : Type 0} → (one other : X) (ones others : List X) → one ∷ ones ≡ other ∷ others
    → (one ≡ other) × (ones ≡ others)
first-same one other ones others same = (cc same, cc same)

pub all-written : (rows : List (List ℕ × List Comparator)) → AreComputed rows → AreWritten rows
all-written [] computed = tt
all-written (row ∷ rows) computed =
    let both = first-same (alternatives_in row.0) (Some (row.1 ∷ [])) _ _ computed in
    (written-by row.0 (row.1 ∷ []) both.0, all-written rows both.1)

-- ---- their common cuts

-- some lower end is not below some upper end
abbrev crosses : Comparator → Comparator → Bool
crosses one other = not (is_lt (cut_cmp version_cmp one.lower other.upper))

abbrev pub are_crossed : List Comparator → Bool
are_crossed [] = true
are_crossed (c ∷ cs) = list_any (λ one. list_any (crosses one) (c ∷ cs)) (c ∷ cs)

uncrossed : (one other : Comparator) (cut : Cut VersionValue) → Holds cut one → Holds cut other
    → crosses one other ≡ true → ⊥
uncrossed one other cut h k crossed =
    let below : is_lt (cut_cmp version_cmp one.lower other.upper) ≡ true =
    lt-from_below version_cmp one.lower other.upper
    (at_most-below version_total one.lower cut other.upper h.lower k.upper) in
    cc (rw below at crossed)

none-crosses : (one : Comparator) (others : List Comparator) (cut : Cut VersionValue) → Holds cut one
    → AllByRecursion (Holds cut) others → list_any (crosses one) others ≡ true → ⊥
none-crosses one [] cut h all crossed = cc crossed
none-crosses one (c ∷ others) cut h all crossed =
    elim (or_cases (crosses one c) (list_any (crosses one) others) crossed) [
      | inl here ↦ uncrossed one c cut h all.0 here
      | inr behind ↦ none-crosses one others cut h all.1 behind
    ]

none-crossed : (ones others : List Comparator) (cut : Cut VersionValue) → AllByRecursion (Holds cut) ones
    → AllByRecursion (Holds cut) others
    → list_any (λ one. list_any (crosses one) others) ones ≡ true → ⊥
none-crossed [] others cut h all crossed = cc crossed
none-crossed (c ∷ ones) others cut h all crossed =
    elim (or_cases (list_any (crosses c) others) (list_any (λ one. list_any (crosses one) others) ones) crossed) [
      | inl here ↦ none-crosses c others cut h.0 all here
      | inr behind ↦ none-crossed ones others cut h.1 all behind
    ]

pub none-by : (comparators : List Comparator) → are_crossed comparators ≡ true → ¬ GiveSet comparators
none-by [] crossed gives = gives.some refl
none-by (c ∷ cs) crossed gives = none-crossed (c ∷ cs) (c ∷ cs) gives.common.0 gives.common.1 gives.common.1 crossed

none-given_by : (alternatives : List (List Comparator)) → list_all are_crossed alternatives ≡ true
    → NoneGive alternatives
none-given_by [] crossed = tt
none-given_by (comparators ∷ alternatives) crossed =
    let parts = and_parts (are_crossed comparators) (list_all are_crossed alternatives) crossed in
    (none-by comparators parts.0, none-given_by alternatives parts.1)

-- a text is refused where the comparators of each alternative cross
pub refused-by : (text : List ℕ) (alternatives : List (List Comparator)) → IsWritten text alternatives
    → list_all are_crossed alternatives ≡ true → IsRefused text
refused-by text alternatives written crossed =
    refused-from_none text alternatives written (none-given_by alternatives crossed)

-- ---- what they admit

-- there is a comparator, and all of them together admit the version
abbrev admit_some : VersionValue → List Comparator → Bool
admit_some v comparators = has_elements comparators && admit comparators v

admit_some-iff : (v : VersionValue) (comparators : List Comparator)
    → (admit_some v comparators ≡ true) ↔ AdmitSome v comparators
admit_some-iff v comparators = (
  λ h.
      let parts = and_parts (has_elements comparators) (admit comparators v) h in
      ((elements-iff comparators).0 parts.0, (admit-iff comparators v).0 parts.1),
  λ h. and_from _ _ ((elements-iff comparators).1 h.0) ((admit-iff comparators v).1 h.1),
)

-- some alternative admits the version
abbrev pub some_admits : List (List Comparator) → VersionValue → Bool
some_admits alternatives v = list_any (admit_some v) alternatives

-- what an alternative of a text admits, the text does
pub admits-by : (text : List ℕ) (alternatives : List (List Comparator)) (v : VersionValue)
    → IsWritten text alternatives → some_admits alternatives v ≡ true → TextAdmits text v
admits-by text alternatives v written passes = record {
  alternatives = alternatives;
  written = written;
  admitted = (any-iff (AdmitSome v) (admit_some v) (admit_some-iff v) alternatives).0 passes;
}

-- and nothing else
pub turns_away-by : (text : List ℕ) (alternatives : List (List Comparator)) (v : VersionValue)
    → IsWritten text alternatives → some_admits alternatives v ≡ false → ¬ TextAdmits text v
turns_away-by text alternatives v written fails = λ admits.
    let some : AnyByRecursion (AdmitSome v) alternatives = subst (AnyByRecursion (AdmitSome v))
    (written-unique text admits.alternatives alternatives admits.written written) admits.admitted in
    let passes : some_admits alternatives v ≡ true =
    (any-iff (AdmitSome v) (admit_some v) (admit_some-iff v) alternatives).1 some in
    cc (passes, fails)

-- there is a comparator, and the cut lies in all of them
abbrev pub lies_in : Cut VersionValue → List Comparator → Bool
lies_in cut comparators = has_elements comparators && list_all (holds cut) comparators

pub gives-by : (comparators : List Comparator) (cut : Cut VersionValue) → lies_in cut comparators ≡ true
    → GiveSet comparators
gives-by comparators cut lies =
    let parts = and_parts (has_elements comparators) (list_all (holds cut) comparators) lies in
    record {
      some = (elements-iff comparators).0 parts.0;
      common = (cut, (all-iff (Holds cut) (holds cut) (holds-iff cut) comparators).0 parts.1);
    }

-- the cut lies in all comparators of some alternative
abbrev pub lies_in_some : Cut VersionValue → List (List Comparator) → Bool
lies_in_some cut alternatives = list_any (lies_in cut) alternatives

some-gives : (alternatives : List (List Comparator)) (cut : Cut VersionValue) → lies_in_some cut alternatives ≡ true
    → ¬ NoneGive alternatives
some-gives [] cut lies none = cc lies
some-gives (comparators ∷ alternatives) cut lies none =
    elim (or_cases (lies_in cut comparators) (lies_in_some cut alternatives) lies) [
      | inl here ↦ none.0 (gives-by comparators cut here)
      | inr behind ↦ some-gives alternatives cut behind none.1
    ]

-- a text with such an alternative is not refused
pub accepted-by : (text : List ℕ) (alternatives : List (List Comparator)) (cut : Cut VersionValue)
    → IsWritten text alternatives → lies_in_some cut alternatives ≡ true → ¬ IsRefused text
accepted-by text alternatives cut written passes = λ refused.
    some-gives alternatives cut passes (none-from_refused text alternatives written refused)
