-- The comparators of a piece, and the set that they give.
use native.Mathlib.Omega.{arith}
use Rattle.std.proofs.Common.{◌≡◌, ◌∙◌, ℕ, Bool, true, List, [], ◌∷◌, ◌++◌, Option, Some, None, Err, ap, refl}
use Rattle.std.proofs.Common.{subst, sym}
use Rattle.std.proofs.lemmas.List.{append-nil}
use Rattle.semver_cuts.specs.Ends.{Ends}
use Rattle.semver_cuts.specs.Lemmas.ChosenEnds.{chosen_lower-some}
use Rattle.semver_texts.specs.Characters.{BeginsWith}
use Rattle.semver_texts.specs.Lemmas.Public.{version_total}
use Rattle.semver_texts.specs.Reading.{rest_of}
use Rattle.semver_texts.specs.Version.{VersionValue}
use Rattle.semver_sets.specs.Comparator.{Comparator}
use Rattle.semver_sets.specs.Lemmas.Merging.{merged-gives}
use Rattle.semver_sets.specs.Merging.{AreSetsOf, IsCommonSpan, IsNarrowedTo, IsSetOf, IsSpanOf, all_cuts, no_more, none, one_more}
use Rattle.semver_sets.specs.declared.read.Unread.{Unread}
use Rattle.semver_sets.specs.declared.read.Unread.TheVariants.{Refused}
use Rattle.semver_sets.specs.Lemmas.Comparators.{IsReadEnds}
use Rattle.npm_sets.specs.NpmMeaning.{alone_or, hyphen_range, piece_comparators}
use Rattle.npm_sets.specs.Private.ReadViews.{AreRead, IsAdded, IsAddedBy, IsRead, listed}
use Rattle.npm_sets.specs.WordTexts.{chunks_of, is_solid, is_space, sides_of}
use Rattle.npm_sets.specs.declared.options.NpmOptions.{NpmOptions}
use Rattle.npm_sets.proofs.Chunks.ChunkLemmas.{chunks-empty, chunks-skip}
use Rattle.npm_sets.proofs.Chunks.SideLemmas.{chunks-some}
use Rattle.npm_sets.proofs.Pieces.WordReading.{text_comparators}

-- ---- what a piece is

-- the chunks of a piece are those of the piece without its leading white space
skipped : (piece text : List ℕ) → text ≡ rest_of is_space piece → chunks_of piece ≡ chunks_of text
skipped piece text same = sym (chunks-skip piece) ∙ ap chunks_of (sym same)

-- nothing
pub piece-empty : (options : NpmOptions) (piece text : List ℕ) → text ≡ rest_of is_space piece → text ≡ []
    → piece_comparators options piece ≡ Some (all_cuts ∷ [])
piece-empty options piece text same empty = grind (arith, skipped piece text same, chunks-empty)

-- a hyphen range or words
pub piece-words : (options : NpmOptions) (piece text : List ℕ) → text ≡ rest_of is_space piece
    → BeginsWith is_solid text
    → piece_comparators options piece
    ≡ alone_or (hyphen_range options (sides_of (chunks_of text))) (text_comparators options text)
piece-words options piece text same solid = grind (arith, chunks-some text solid, skipped piece text same)

-- ---- what is read

-- none of no comparators
none-common : (common : Option Comparator) → common ≡ None → IsCommonSpan [] common
none-common common h1 = grind arith

-- one comparator
pub one-read : (value : Option (List Comparator)) (before after : Option Comparator) (c : Comparator)
    → before ≡ None → IsNarrowedTo before c after → IsReadEnds c → value ≡ Some (c ∷ []) → AreRead value after true
one-read value before after c absent narrows bounded is = grind (arith, none-common before absent)

pub all-bounded : IsReadEnds all_cuts
all-bounded = record { lower = tt; upper = tt }

-- ---- the set

-- the set that comparators give, if they share a cut
pub set-given : (comparators : List Comparator) (common : Option Comparator) (set : Ends VersionValue)
    → IsCommonSpan comparators common → IsSpanOf common (Some set) → AreSetsOf (listed comparators) (set ∷ [])
set-given comparators None set is span = absurd (cc span)
set-given [] (Some common) set is span =
    absurd (chosen_lower-some version_total [] common.lower is.lower refl)
set-given (c ∷ comparators) (Some common) set is span =
    one_more (c ∷ comparators) [] set [] ((merged-gives (c ∷ comparators) common is).1 (span.0.0 refl))
    (subst (IsSetOf (c ∷ comparators)) (sym span.1) is) none

-- and none otherwise
pub none-given : (comparators : List Comparator) (common : Option Comparator) → IsCommonSpan comparators common
    → IsSpanOf common None → AreSetsOf (listed comparators) []
none-given [] common is span = none
none-given (c ∷ comparators) None is span = absurd (cc is)
none-given (c ∷ comparators) (Some common) is span =
    no_more (c ∷ comparators) [] []
    (λ gives. cc (span.0.1 ((merged-gives (c ∷ comparators) common is).0 gives))) none

-- the sets with that one
pub set-added : (value : Option (List Comparator)) (common : Option Comparator) (found : Bool) (set : Ends VersionValue)
    (before after : List (Ends VersionValue)) → AreRead value common found → IsSpanOf common (Some set)
    → after ≡ before ++ set ∷ [] → IsAdded value before after found
set-added value common found set before after h1 h2 h3 = grind (arith, set-given)

-- or as they were
pub none-added : (value : Option (List Comparator)) (common : Option Comparator) (found : Bool)
    (before : List (Ends VersionValue)) → AreRead value common found → IsSpanOf common None
    → IsAdded value before before found
none-added value common found before h1 h2 = grind (arith, none-given, append-nil)

-- a piece that is refused
pub refused-told : (value : Option (List Comparator)) (before after : List (Ends VersionValue)) (unread : Unread)
    → IsAddedBy value before after (Err unread) → unread ≡ Refused → value ≡ None
refused-told value before after unread h1 h2 = grind arith

pub piece-refused : (value : Option (List Comparator)) (common : Option Comparator) (unread : Unread)
    → IsRead value common (Err unread) → unread ≡ Refused → value ≡ None
piece-refused value common unread h1 h2 = grind arith
