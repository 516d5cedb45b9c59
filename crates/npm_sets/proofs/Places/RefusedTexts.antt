-- The pieces of a text up to the one that is refused.
use Rattle.std.proofs.Common.{◌≡◌, ◌∙◌, ◌≤◌, ◌<◌, ◌+◌, ◌-◌, ℕ, true, List, [], ◌∷◌, ◌++◌, Option, Some, None, ap, refl}
use Rattle.std.proofs.Common.{sym, subst}
use Rattle.std.proofs.Common.{IfNone, IfSome, IsSome, arith, inl, inr, length, length-append}
use Rattle.std.specs.Prelude.{◌==◌, ◌&&◌}
use Rattle.std.specs.Borrow.{Bor}
use Rattle.std.specs.List.{AllByRecursion}
use Rattle.std.proofs.lemmas.Bool.{cases_Bool}
use Rattle.std.proofs.lemmas.List.{append-nil, append_assoc}
use Rattle.semver_texts.specs.Characters.{bar}
use Rattle.semver_sets.specs.Comparator.{Comparator}
use Rattle.semver_sets.specs.Division.{HasBars, HasFirstPiece, IsPieces}
use Rattle.npm_sets.specs.NpmMeaning.{IsNpmRefused, piece_comparators, pieces_alternatives}
use Rattle.npm_sets.specs.Private.ReadViews.{some_seen}
use Rattle.npm_sets.specs.Private.RefusedViews.{IsAsciiEnd, IsEndOf, IsPlace, IsReadPiece}
use Rattle.npm_sets.specs.RefusedPlace.{ends_in_space}
use Rattle.npm_sets.specs.WordTexts.{is_space, pieces_of}
use Rattle.npm_sets.specs.declared.options.NpmOptions.{NpmOptions}
use Rattle.npm_sets.proofs.Pieces.PieceDivision.{first-piece, only-piece, piece-step}
use Rattle.npm_sets.proofs.Pieces.TextReading.{pieces-end, pieces-more}
use Rattle.npm_sets.proofs.Places.RefusedWords.{all-append}

-- ---- the last byte

space-ascii : (b : ℕ) → is_space b ≡ true → b < 128
space-ascii b h = grind (arith)

pub ascii-space : (text : List ℕ) → ends_in_space text ≡ true → IsAsciiEnd text
unfolding ends_in_space
ascii-space [] h = inl refl
ascii-space (b ∷ []) h = inr ([], b, space-ascii b h, refl)
ascii-space (b ∷ c ∷ rest) h = elim (ascii-space (c ∷ rest) h) [
  | inl none ↦ absurd (cc none)
  | inr last ↦ inr (b ∷ last.0, last.1, last.2, ap (λ (l : List ℕ). b ∷ l) last.3)
]

pub ascii-append : (one two : List ℕ) → IsAsciiEnd one → IsAsciiEnd two → IsAsciiEnd (one ++ two)
ascii-append one two first (inl none) = grind (arith, append-nil one)
ascii-append one two first (inr last) = grind (arith, append_assoc one last.0 (last.1 ∷ []))

ascii-bars : (text : List ℕ) → IsAsciiEnd (text ++ (bar ∷ bar ∷ []))
ascii-bars text = inr (text ++ (bar ∷ []), bar, omega arith, sym (append_assoc text (bar ∷ []) (bar ∷ [])))

-- ---- the first piece of what is left

-- a text is its first piece and what follows it
pub record IsFirstOf (rest piece : List ℕ) : Type 0 where
  pub tail : List ℕ
  pub later : List (List ℕ)
  pub whole : rest ≡ piece ++ tail
  pub no_bars : ¬ HasBars piece
  pub division : pieces_of rest ≡ piece ∷ later

pub first-told : (rest piece : List ℕ) (later : Option (Bor (List ℕ)))
    → IfSome later (λ others. HasFirstPiece rest piece others.now) → IfNone later (IsPieces rest (piece ∷ []))
    → IsFirstOf rest piece
first-told rest piece (Some others) first last = record {
  tail = bar ∷ bar ∷ others.now;
  later = pieces_of others.now;
  whole = first.whole;
  no_bars = first.no_bars;
  division = ap pieces_of first.whole ∙ first-piece piece others.now first.no_bars first.ends_in_none;
}
first-told rest piece None first last = grind (arith, append-nil piece, only-piece rest last.1)

-- a beginning of a text without bars has none
no-bars_before : (start end : List ℕ) → ¬ HasBars (start ++ end) → ¬ HasBars start
no-bars_before start end free has = grind (arith, append_assoc has.0 (bar ∷ bar ∷ has.1) end)

-- ---- the pieces so far

-- the pieces before the rest of a text are read
pub record PiecesPassed (options : NpmOptions) (text rest : List ℕ) : Type 0 where
  pub before : List ℕ
  pub earlier : List (List ℕ)
  pub read : AllByRecursion (IsReadPiece options) earlier
  pub division : (more : List ℕ) → pieces_of (before ++ more) ≡ earlier ++ pieces_of more
  pub whole : text ≡ before ++ rest
  pub ascii : IsAsciiEnd before

-- so it is for what is left; if nothing is left, all pieces are read
abbrev pub ArePassed : NpmOptions → List ℕ → Option (List ℕ) → Type 0
ArePassed options text None = AllByRecursion (IsReadPiece options) (pieces_of text)
ArePassed options text (Some rest) = PiecesPassed options text rest

pub pieces-none : (options : NpmOptions) (text : List ℕ) → PiecesPassed options text text
pieces-none options text = record {
  before = [];
  earlier = [];
  read = tt;
  division = λ more. refl;
  whole = refl;
  ascii = inl refl;
}

-- with one more piece
pub pieces-passed : (options : NpmOptions) (text rest piece : List ℕ) (later : Option (Bor (List ℕ)))
    → PiecesPassed options text rest → IsReadPiece options piece
    → IfSome later (λ others. HasFirstPiece rest piece others.now) → IfNone later (IsPieces rest (piece ∷ []))
    → ArePassed options text (some_seen later)
unfolding first-told
pieces-passed options text rest piece (Some others) so here first last = record {
  before = so.before ++ (piece ++ (bar ∷ bar ∷ []));
  earlier = so.earlier ++ (piece ∷ []);
  read = all-append (IsReadPiece options) so.earlier (piece ∷ []) so.read (here, tt);
  division = grind (arith, append_assoc, first-piece);
  whole = grind (arith, append_assoc);
  ascii = ascii-append so.before (piece ++ (bar ∷ bar ∷ [])) so.ascii (ascii-bars piece);
}
pieces-passed options text rest piece None so here first last =
    grind (
      arith,
      first-told rest piece None first last,
      all-append (IsReadPiece options) so.earlier (piece ∷ []) so.read (here, tt),
    )

-- ---- the piece that is refused

some-each : (options : NpmOptions) (pieces : List (List ℕ)) → AllByRecursion (IsReadPiece options) pieces
    → AllByRecursion (λ (piece : List ℕ). IsSome (piece_comparators options piece)) pieces
some-each options [] all = tt
some-each options (piece ∷ pieces) all = (rw all.0.value_is refl, some-each options pieces all.1)

-- the lengths that the code subtracts
pub record HasLengths (text rest piece end : List ℕ) (before start : List ℕ) : Type 0 where
  pub rest_is : length text ≡ length before + length rest
  pub end_is : length piece ≡ length start + length end
  pub piece_fits : length piece ≤ length rest

pub lengths-told : (options : NpmOptions) (text rest piece end : List ℕ) → (so : PiecesPassed options text rest)
    → IsFirstOf rest piece → (of : IsEndOf options piece end) → HasLengths text rest piece end so.before of.start
lengths-told options text rest piece end so h1 of = grind (arith, length-append)

pub place-found : (options : NpmOptions) (text rest piece end : List ℕ) (place : ℕ) → PiecesPassed options text rest
    → IsFirstOf rest piece → IsEndOf options piece end → piece_comparators options piece ≡ None
    → place ≡ (length text - length rest) + (length piece - length end) → IsPlace options text place
place-found options text rest piece end place so one of refused is =
    let start = of.start in
    let whole : text ≡ (so.before ++ start) ++ (end ++ one.tail) = grind (arith, append_assoc) in
    let lengths = lengths-told options text rest piece end so one of in
    let begins = length-append so.before start in
    let rest_is = lengths.rest_is in
    let end_is = lengths.end_is in
    record {
      before = so.before ++ start;
      after = end ++ one.tail;
      whole = whole;
      refused = record {
        earlier = so.earlier;
        read = some-each options so.earlier so.read;
        start = start;
        end = end;
        refused = sym (ap (piece_comparators options) of.whole) ∙ refused;
        first = of.first;
        begins =
            so.division start
            ∙ ap (λ (l : List (List ℕ)). so.earlier ++ l) (only-piece start
            (no-bars_before start end (subst (λ (l : List ℕ). ¬ HasBars l) of.whole one.no_bars)));
        later = one.later;
        whole = grind arith;
      };
      ascii = ascii-append so.before start so.ascii (ascii-space start of.first.border);
      place_is = omega arith;
    }

-- ---- a text whose pieces are all read

alternatives-read : (options : NpmOptions) (pieces : List (List ℕ)) → AllByRecursion (IsReadPiece options) pieces
    → (alternatives : List (List Comparator)) × (pieces_alternatives options pieces ≡ Some alternatives)
alternatives-read options [] all = grind (arith, pieces-end options)
alternatives-read options (piece ∷ pieces) all =
    grind (arith, pieces-more options piece pieces, alternatives-read options pieces all.1)

pieces-some : (text : List ℕ) → (piece : List ℕ) × (pieces : List (List ℕ)) × (pieces_of text ≡ piece ∷ pieces)
unfolding pieces_of
pieces-some [] = ([], [], refl)
pieces-some (b ∷ []) = (b ∷ [], [], refl)
pieces-some (b ∷ c ∷ rest) = elim (cases_Bool ((b == bar) && (c == bar))) [
  | inl both ↦ ([], pieces_of rest, rw both refl)
  | inr other ↦ grind (arith, piece-step b c rest other, pieces-some (c ∷ rest))
]

-- is not refused
pub all-read : (options : NpmOptions) (text : List ℕ) → AllByRecursion (IsReadPiece options) (pieces_of text)
    → ¬ IsNpmRefused options text
all-read options text all refused = grind (arith, pieces-some text, alternatives-read, pieces-more)
