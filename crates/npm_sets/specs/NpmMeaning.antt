-- What a range text means in npm's own reading: npm's "Ranges" and "Prerelease Tags".
--
-- `>=1.2 <2 || 3`, in strict form and without prereleases, read with what follows:
--   Its pieces are `>=1.2 <2 ` and ` 3`. The words of the first are `>=1.2` and `<2`, and that of the second is `3`.
--   Its alternatives are `at_least` 1.2.0 with `below` 2.0.0-0, and `from_up_to` 3.0.0 4.0.0-0.
--   1.9.0 is admitted: it lies inside both comparators of the first.
--   2.0.0-rc.1 is not admitted: it does not lie inside `below` 2.0.0-0.
--   3.1.0-rc.1 is not admitted: no end of the second alternative is a prerelease of 3.1.0.
--   With prereleases included 3.1.0-rc.1 is admitted.
use Rattle.std.specs.Prelude.{◌≡◌, ◌≢◌, ◌⊎◌, ℕ, ◌&&◌, Bool, true, false, List, [], ◌∷◌, Option, Some, None, Result, Ok}
use Rattle.std.specs.Prelude.{Err}
use Rattle.std.specs.Prelude.{if◌then◌else◌}
use Rattle.std.specs.List.{AllByRecursion}
use Rattle.semver_cuts.specs.Ends.{Ends}
use Rattle.semver_texts.specs.Reading.{◌>>=◌}
use Rattle.semver_texts.specs.Version.{IsPrerelease, VersionValue}
use Rattle.semver_texts.specs.declared.parse.fault.Fault.{Fault}
use Rattle.semver_texts.specs.declared.parse.fault.Fault.TheVariants.{LeftOver, Missing, TooLarge, TooLong}
use Rattle.semver_sets.specs.Comparator.{Comparator}
use Rattle.semver_sets.specs.Meaning.{AnyByRecursion, HasOpenEnd, IsInside, SetAdmits}
use Rattle.semver_sets.specs.Merging.{AreSetsOf, all_cuts}
use Rattle.semver_sets.specs.PartialText.{Partial}
use Rattle.npm_sets.specs.PartialTexts.{partial_of}
use Rattle.npm_sets.specs.Rows.{hyphen_comparator, lead_comparator, no_versions}
use Rattle.npm_sets.specs.WordTexts.{Word, chunks_of, pieces_of, sides_of, words_of}
use Rattle.npm_sets.specs.declared.options.NpmOptions.{NpmOptions}

-- ---- words

-- the comparator of a word; or what is wrong with its operand
abbrev pub word_comparator : NpmOptions → Word → Result Comparator Fault
word_comparator options word =
    partial_of options.loose word.1 >>= λ p. Ok (lead_comparator options.include_prerelease word.0 p)

-- `true` if the operand is no partial; a partial whose numbers or whose length are above the limits is one
abbrev pub is_unknown : Fault → Bool
is_unknown (TooLong left) = false
is_unknown (Missing left) = true
is_unknown (TooLarge left) = false
is_unknown (LeftOver left) = true

-- With one more comparator before those of the other words. In loose form a word that is no comparator is ignored. In
-- strict form such a word refuses the text, and in both forms a number or a length above the limit does: then none
abbrev pub with_word : Bool → Result Comparator Fault → Option (List Comparator) → Option (List Comparator)
with_word loose word None = None
with_word loose (Ok comparator) (Some others) = Some (comparator ∷ others)
with_word loose (Err fault) (Some others) = if loose && is_unknown fault then Some others else None

-- the comparators of words; or none if the text is refused
unfoldable pub comparators_of : NpmOptions → List Word → Option (List Comparator)
comparators_of options [] = Some []
comparators_of options (word ∷ words) =
    with_word options.loose (word_comparator options word) (comparators_of options words)

-- ---- pieces

-- the comparator of two partials with a hyphen between them
abbrev pub hyphen_of : NpmOptions → Result Partial Fault → Result Partial Fault → Option Comparator
hyphen_of options (Err fault) right = None
hyphen_of options (Ok left) (Err fault) = None
hyphen_of options (Ok left) (Ok right) = Some (hyphen_comparator options.include_prerelease left right)

-- the comparator of a whole piece that is a hyphen range, if both sides are partials
abbrev pub hyphen_range : NpmOptions → Option (List ℕ × List ℕ) → Option Comparator
hyphen_range options None = None
hyphen_range options (Some sides) =
    hyphen_of options (partial_of options.loose sides.0) (partial_of options.loose sides.1)

-- the comparator alone, or the comparators of the words
abbrev pub alone_or : Option Comparator → Option (List Comparator) → Option (List Comparator)
alone_or None words = words
alone_or (Some comparator) words = Some (comparator ∷ [])

-- the comparators of the chunks of a piece: all versions for a piece of nothing; a hyphen range; or words
abbrev pub chunks_comparators : NpmOptions → List (List ℕ) → Option (List Comparator)
chunks_comparators options [] = Some (all_cuts ∷ [])
chunks_comparators options (chunk ∷ chunks) =
    alone_or (hyphen_range options (sides_of (chunk ∷ chunks))) (comparators_of options (words_of (chunk ∷ chunks)))

-- the comparators of a piece; or none if the text is refused
abbrev pub piece_comparators : NpmOptions → List ℕ → Option (List Comparator)
piece_comparators options piece = chunks_comparators options (chunks_of piece)

-- ---- texts

-- one more alternative, if the piece has a comparator
abbrev pub with_piece : Option (List Comparator) → Option (List (List Comparator)) → Option (List (List Comparator))
with_piece None others = None
with_piece (Some comparators) None = None
with_piece (Some []) (Some others) = Some others
with_piece (Some (c ∷ comparators)) (Some others) = Some ((c ∷ comparators) ∷ others)

-- the alternatives of pieces; or none if the text is refused
unfoldable pub pieces_alternatives : NpmOptions → List (List ℕ) → Option (List (List Comparator))
pieces_alternatives options [] = Some []
pieces_alternatives options (piece ∷ pieces) =
    with_piece (piece_comparators options piece) (pieces_alternatives options pieces)

-- the alternatives, or the empty list
abbrev pub or_no_alternatives : Option (List (List Comparator)) → List (List Comparator)
or_no_alternatives None = []
or_no_alternatives (Some alternatives) = alternatives

-- the alternatives of a range text, each as the list of its comparators; no alternatives if the text is refused
abbrev pub alternatives_of : NpmOptions → List ℕ → List (List Comparator)
alternatives_of options text = or_no_alternatives (pieces_alternatives options (pieces_of text))

-- the text is refused
abbrev pub IsNpmRefused : NpmOptions → List ℕ → Type 0
IsNpmRefused options text = alternatives_of options text ≡ []

-- There is a comparator, and the version lies inside each. Unless prereleases are included, an end of one of them is a
-- prerelease of the version's triple, if the version is a prerelease
pub record NpmAdmit (pre : Bool) (comparators : List Comparator) (v : VersionValue) : Type 0 where
  pub some : comparators ≢ []
  pub inside : AllByRecursion (IsInside v) comparators
  pub opened : pre ≡ false → IsPrerelease v → AnyByRecursion (HasOpenEnd v) comparators

-- the comparators of some alternative admit the version
abbrev pub NpmTextAdmits : NpmOptions → List ℕ → VersionValue → Type 0
NpmTextAdmits options text v =
    AnyByRecursion (λ comparators. NpmAdmit options.include_prerelease comparators v) (alternatives_of options text)

-- ---- the sets of a text

-- the set admits the version; if prereleases are included, the version lies inside the set
abbrev pub NpmSetAdmits : Bool → Ends VersionValue → VersionValue → Type 0
NpmSetAdmits false set v = SetAdmits set v
NpmSetAdmits true set v = IsInside v set

-- one of the sets does: the version satisfies the range or, if prereleases are included, the range contains it
abbrev pub NpmSetsAdmit : Bool → List (Ends VersionValue) → VersionValue → Type 0
NpmSetsAdmit pre sets v = AnyByRecursion (λ set. NpmSetAdmits pre set v) sets

-- one set for each alternative whose comparators share a cut; `<0.0.0-0` alone if there is none
abbrev pub AreNpmSets : NpmOptions → List ℕ → List (Ends VersionValue) → Type 0
AreNpmSets options text sets =
    AreSetsOf (alternatives_of options text) sets × (sets ≢ [])
    ⊎ AreSetsOf (alternatives_of options text) [] × (sets ≡ no_versions ∷ [])
