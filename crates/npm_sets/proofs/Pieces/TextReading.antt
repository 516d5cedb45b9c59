-- The pieces of a text, as they are read one after another.
use Rattle.std.proofs.Common.{◌≡◌, ◌≢◌, ◌∙◌, ◌<◌, ℕ, suc, Bool, true, false, List, [], ◌∷◌, ◌++◌, Option, Some, None}
use Rattle.std.proofs.Common.{ap, arith, length, length-append, refl, subst, sym}
use Rattle.std.specs.Prelude.{IfSome, IfNone}
use Rattle.std.specs.Borrow.{Bor}
use Rattle.std.specs.List.{AllByRecursion}
use Rattle.std.proofs.lemmas.List.{append-nil}
use Rattle.semver_cuts.specs.Ends.{Ends}
use Rattle.semver_texts.specs.Version.{VersionValue}
use Rattle.semver_sets.specs.Comparator.{Comparator}
use Rattle.semver_sets.specs.Division.{HasFirstPiece, IsPieces}
use Rattle.semver_sets.specs.Merging.{AreSetsOf, no_more, none, one_more}
use Rattle.semver_sets.specs.RangeSets.{IsRangeValue, sets_of_some, sets_seen}
use Rattle.semver_sets.specs.declared.set_list.Sets.{Sets}
use Rattle.semver_sets.specs.Lemmas.Comparators.{IsReadEnds}
use Rattle.npm_sets.specs.NpmMeaning.{AreNpmSets, IsNpmRefused}
use Rattle.npm_sets.specs.NpmMeaning.{alternatives_of, piece_comparators, pieces_alternatives}
use Rattle.npm_sets.specs.NpmMeaning.{with_piece}
use Rattle.npm_sets.specs.Private.ReadViews.{IsAdded, has_some, listed, prepend, some_seen}
use Rattle.npm_sets.specs.Rows.{no_versions}
use Rattle.npm_sets.specs.WordTexts.{pieces_of}
use Rattle.npm_sets.specs.declared.options.NpmOptions.{NpmOptions}
use Rattle.npm_sets.proofs.Pieces.WordReading.{prepend-append, prepend-none}
use Rattle.npm_sets.proofs.Pieces.PieceDivision.{first-piece, only-piece}
use Rattle.npm_sets.proofs.Pieces.SetMeaning.{AreReadAlternative, no_versions-bounded, sets-bounded}

-- ---- the alternatives so far

pub pieces-more : (options : NpmOptions) (piece : List ℕ) (pieces : List (List ℕ))
    → pieces_alternatives options (piece ∷ pieces)
    ≡ with_piece (piece_comparators options piece) (pieces_alternatives options pieces)
unfolding pieces_alternatives
pieces-more options piece pieces = refl

pub pieces-end : (options : NpmOptions) → pieces_alternatives options [] ≡ Some []
unfolding pieces_alternatives
pieces-end options = refl

-- the alternatives of the rest of a text, if there is more
abbrev pub left_alternatives : NpmOptions → Option (List ℕ) → Option (List (List Comparator))
left_alternatives options None = Some []
left_alternatives options (Some text) = pieces_alternatives options (pieces_of text)

-- those of a text, from its first piece
pub first-of : (options : NpmOptions) (text piece : List ℕ) (later : Option (Bor (List ℕ)))
    → IfSome later (λ others. HasFirstPiece text piece others.now) → IfNone later (IsPieces text (piece ∷ []))
    → left_alternatives options (Some text)
    ≡ with_piece (piece_comparators options piece) (left_alternatives options (some_seen later))
first-of options text piece later h1 h2 = grind (arith, first-piece, pieces-more, only-piece, pieces-end)

-- what is left is shorter
abbrev pub left_length : Option (List ℕ) → ℕ
left_length None = 0
left_length (Some text) = suc (length text)

pub left-shorter : (text piece : List ℕ) (later : Option (Bor (List ℕ)))
    → IfSome later (λ others. HasFirstPiece text piece others.now)
    → left_length (some_seen later) < left_length (Some text)
left-shorter text piece later h1 = grind (arith, length-append)

with-some : (comparators : List Comparator) (more : Option (List (List Comparator)))
    → with_piece (Some comparators) more ≡ prepend (listed comparators) more
with-some comparators more = grind arith

-- the alternatives before the rest of a text, and their sets
pub record PiecesSoFar (options : NpmOptions) (text : List ℕ) (left : Option (List ℕ)) (sets : List (Ends VersionValue))
    (found : Bool) : Type 0 where
  pub done : List (List Comparator)
  pub read : prepend done (left_alternatives options left) ≡ left_alternatives options (Some text)
  pub merged : AreSetsOf done sets
  pub found_is : found ≡ has_some done
  pub bounded : AllByRecursion AreReadAlternative done

pub pieces-start : (options : NpmOptions) (text : List ℕ) (left : Option (List ℕ)) (sets : List (Ends VersionValue))
    → left ≡ Some text → sets ≡ [] → PiecesSoFar options text left sets false
pieces-start options text left sets is empty = record {
  done = [];
  read = prepend-none (left_alternatives options left) ∙ ap (left_alternatives options) is;
  merged = subst (AreSetsOf []) (sym empty) none;
  found_is = refl;
  bounded = tt;
}

sets-append : (done next : List (List Comparator)) (sets more : List (Ends VersionValue)) → AreSetsOf done sets
    → AreSetsOf next more → AreSetsOf (done ++ next) (sets ++ more)
sets-append [] next [] more none later = later
sets-append [] next (s ∷ sets) more m later = elim m [ ]
sets-append (c ∷ done) next (s ∷ sets) more (one_more _ _ _ _ g i rest) later =
    one_more c (done ++ next) s (sets ++ more) g i (sets-append done next sets more rest later)
sets-append (c ∷ done) next sets more (no_more _ _ _ n rest) later =
    no_more c (done ++ next) (sets ++ more) n (sets-append done next sets more rest later)

has-more : (done : List (List Comparator)) (comparators : List Comparator) → true ≡ has_some comparators
    → true ≡ has_some (done ++ listed comparators)
has-more done [] some = cc some
has-more [] (c ∷ comparators) some = refl
has-more (d ∷ done) (c ∷ comparators) some = refl

has-same : (done : List (List Comparator)) (comparators : List Comparator) → false ≡ has_some comparators
    → has_some done ≡ has_some (done ++ listed comparators)
has-same done comparators h1 = grind (arith, append-nil)

all-more : (done : List (List Comparator)) (comparators : List Comparator) → AllByRecursion AreReadAlternative done
    → AllByRecursion IsReadEnds comparators → AllByRecursion AreReadAlternative (done ++ listed comparators)
all-more [] [] all here = tt
all-more [] (c ∷ comparators) all here = (here, tt)
all-more (d ∷ done) comparators all here = (all.0, all-more done comparators all.1 here)

-- after one more piece, where it is known whether it has a comparator
pieces-more_read : (options : NpmOptions) (text rest piece : List ℕ) (later : Option (List ℕ))
    (before after : List (Ends VersionValue)) (found here now : Bool)
    → PiecesSoFar options text (Some rest) before found
    → left_alternatives options (Some rest)
    ≡ with_piece (piece_comparators options piece) (left_alternatives options later)
    → (added : IsAdded (piece_comparators options piece) before after here)
    → ((done : List (List Comparator)) → found ≡ has_some done → now ≡ has_some (done ++ listed added.comparators))
    → PiecesSoFar options text later after now
pieces-more_read options text rest piece later before after found here now h1 h2 added h3 =
    grind (arith, prepend-append, with-some, sets-append, all-more)

-- a piece with a comparator
pub pieces-found : (options : NpmOptions) (text rest piece : List ℕ) (later : Option (List ℕ))
    (before after : List (Ends VersionValue)) (found here : Bool)
    → PiecesSoFar options text (Some rest) before found
    → left_alternatives options (Some rest)
    ≡ with_piece (piece_comparators options piece) (left_alternatives options later)
    → IsAdded (piece_comparators options piece) before after here → here ≡ true
    → PiecesSoFar options text later after true
pieces-found options text rest piece later before after found here so first added is =
    pieces-more_read options text rest piece later before after found here true so first added
    (λ done was. has-more done added.comparators (sym is ∙ added.found_is))

-- a piece without
pub pieces-passed : (options : NpmOptions) (text rest piece : List ℕ) (later : Option (List ℕ))
    (before after : List (Ends VersionValue)) (found here : Bool)
    → PiecesSoFar options text (Some rest) before found
    → left_alternatives options (Some rest)
    ≡ with_piece (piece_comparators options piece) (left_alternatives options later)
    → IsAdded (piece_comparators options piece) before after here → here ≡ false
    → PiecesSoFar options text later after found
pieces-passed options text rest piece later before after found here so first added is =
    pieces-more_read options text rest piece later before after found here found so first added
    (λ done was. was ∙ has-same done added.comparators (sym is ∙ added.found_is))

-- a piece that refuses the text
pub pieces-refused : (options : NpmOptions) (text rest piece : List ℕ) (later : Option (List ℕ))
    (before : List (Ends VersionValue)) (found : Bool)
    → PiecesSoFar options text (Some rest) before found
    → left_alternatives options (Some rest)
    ≡ with_piece (piece_comparators options piece) (left_alternatives options later)
    → piece_comparators options piece ≡ None → IsNpmRefused options text
pieces-refused options text rest piece later before found h1 h2 h3 = grind arith

-- ---- all alternatives

-- where nothing is left, those so far are all
pub all-done : (options : NpmOptions) (text : List ℕ) (left : Option (List ℕ)) (sets : List (Ends VersionValue))
    (found : Bool) → (so : PiecesSoFar options text left sets found) → left ≡ None
    → alternatives_of options text ≡ so.done
all-done options text left sets found so end = grind (arith, append-nil so.done)

pub none-some : {X : Type 0} (xs : List X) → false ≡ has_some xs → xs ≡ []
none-some xs h1 = grind arith

some-some : {X : Type 0} (xs : List X) → true ≡ has_some xs → xs ≢ []
some-some xs h1 = grind arith

-- a text without comparators is refused
pub none-refused : (options : NpmOptions) (text : List ℕ) (left : Option (List ℕ)) (sets : List (Ends VersionValue))
    (found : Bool) → PiecesSoFar options text left sets found → left ≡ None → found ≡ false
    → IsNpmRefused options text
none-refused options text left sets found h1 h2 h3 = grind (arith, all-done, none-some)

-- and one with a comparator is not
pub some-accepted : (options : NpmOptions) (text : List ℕ) (left : Option (List ℕ)) (sets : List (Ends VersionValue))
    (found : Bool) → PiecesSoFar options text left sets found → left ≡ None → found ≡ true
    → ¬ IsNpmRefused options text
some-accepted options text left sets found h1 h2 h3 = grind (arith, some-some, all-done)

-- the sets are those of all alternatives
sets-done : (options : NpmOptions) (text : List ℕ) (left : Option (List ℕ)) (sets : List (Ends VersionValue))
    (found : Bool) → PiecesSoFar options text left sets found → left ≡ None
    → AreSetsOf (alternatives_of options text) sets
sets-done options text left sets found so end = grind (arith, all-done options text left sets found so end)

-- ---- the result

-- the sets that were gathered, if there are some
pub record IsResult (options : NpmOptions) (text : List ℕ) (sets : List (Ends VersionValue)) : Type 0 where
  pub sets_are : AreNpmSets options text sets
  pub holds : IsRangeValue sets
  pub accepted : ¬ IsNpmRefused options text

pub some-gathered : (options : NpmOptions) (text : List ℕ) (left : Option (List ℕ)) (sets : List (Ends VersionValue))
    (found : Bool) (result : Option Sets) (given : Sets) → PiecesSoFar options text left sets found → left ≡ None
    → found ≡ true → sets_of_some result ≡ sets → IfSome result (λ s. sets_seen s ≢ []) → result ≡ Some given
    → IsResult options text (sets_seen given)
some-gathered options text left sets found result given so end is same some told =
    grind (
      arith,
      sets-done options text left sets found so end,
      sets-bounded so.done sets so.merged so.bounded,
      some-accepted options text left sets found so end is,
    )

pub none-gathered : (options : NpmOptions) (text : List ℕ) (left : Option (List ℕ))
    (sets given : List (Ends VersionValue))
    (found : Bool) (result : Option Sets) → PiecesSoFar options text left sets found → left ≡ None → found ≡ true
    → sets_of_some result ≡ sets → result ≡ None → given ≡ no_versions ∷ [] → IsResult options text given
none-gathered options text left sets given found result so end is same told alone =
    grind (
      arith,
      sets-done options text left sets found so end,
      no_versions-bounded,
      some-accepted options text left sets found so end is,
    )
