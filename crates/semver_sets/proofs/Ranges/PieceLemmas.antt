-- Range texts: each is divided at `||` in exactly one way.
use Rattle.std.proofs.Common.{◌≡◌, ◌+◌, ◌-◌, ◌<◌, ◌≤◌, ℕ, zero, suc, false, List, [], ◌∷◌, ◌++◌, length, get_or}
use Rattle.std.proofs.Common.{take, drop, Option, Some, None, append_assoc, length-append, arith, refl, sym, ap, subst}
use Rattle.std.proofs.Common.{◌∙◌, inl, inr}
use Rattle.std.specs.Prelude.{◌⊎◌, ◌==◌, IfNone, IfSome}
use Rattle.std.specs.Borrow.{Bor}
use Rattle.std.proofs.lemmas.Bool.{and_parts, cases_Bool, eqb-true}
use Rattle.std.proofs.lemmas.List.{append-nil, drop_all, drop_more, get_or-drop, take_all, take_more}
use Rattle.memchr.specs.Find.{Nowhere, Passes, is_byte}
use Rattle.semver_texts.specs.Characters.{bar}
use Rattle.semver_sets.specs.Division.{EndsInBar, HasBars, HasFirstPiece, IsPieces}
use Rattle.semver_sets.specs.Private.PieceReading.{Piece, bars_after, behind, piece_at, some_seen}

-- ---- `||`

-- a text begins with it, or doesn't
bars-cases : (text : List ℕ) → (bars_after text ≡ None) ⊎ ((after : List ℕ) × (bars_after text ≡ Some after))
bars-cases text = grind (arith, cases_Bool)

-- the same by its first two bytes
pub two-bars : (text : List ℕ) → 1 < length text → get_or text 0 0 ≡ 124 → get_or text 1 0 ≡ 124
    → Some (take (length text - 2) (drop 2 text)) ≡ bars_after text
two-bars text h1 h2 h3 = grind (arith, take_all)

pub not-bars : (text : List ℕ) → (1 < length text → get_or text 0 0 ≡ 124 → get_or text 1 0 ≡ 124 → ⊥)
    → None ≡ bars_after text
not-bars text h1 = grind (arith, cases_Bool, and_parts, eqb-true)

-- if it does, it is two bars and the rest
bars-are : (text after : List ℕ) → bars_after text ≡ Some after → text ≡ bar ∷ bar ∷ after
bars-are text after h1 = grind (arith, cases_Bool, and_parts, eqb-true)

-- ---- the first piece

-- one character more where the text does not begin with `||`
piece-step : (b : ℕ) (rest : List ℕ) → bars_after (b ∷ rest) ≡ None
    → piece_at (b ∷ rest) ≡ (b ∷ (piece_at rest).0, (piece_at rest).1)
unfolding piece_at
piece-step b rest none = rw none refl

-- nothing where it does
piece-stop : (text after : List ℕ) → bars_after text ≡ Some after → piece_at text ≡ ([], Some after)
unfolding piece_at
piece-stop text after h1 = grind arith

-- and nothing of the empty text
piece-of_nothing : piece_at [] ≡ ([], None)
unfolding piece_at
piece-of_nothing = refl

-- what follows a piece, with its `||`
abbrev after_piece : Option (List ℕ) → List ℕ
after_piece None = []
after_piece (Some rest) = bar ∷ bar ∷ rest

-- a piece of a text, as it is read
record IsRead (text : List ℕ) (p : Piece) : Type 0 where
  whole : text ≡ p.0 ++ after_piece p.1
  no_bars : ¬ HasBars p.0
  ends_in_none : (rest : List ℕ) → p.1 ≡ Some rest → ¬ EndsInBar p.0

-- the empty text has no bar
none-of_nothing : (before end : List ℕ) → [] ≡ before ++ (bar ∷ end) → ⊥
none-of_nothing [] end e = cc e
none-of_nothing (b ∷ before) end e = cc e

read-nothing : IsRead [] ([], None)
read-nothing = grind (arith, none-of_nothing)

read-bars : (text after : List ℕ) → bars_after text ≡ Some after → IsRead text ([], Some after)
read-bars text after h = grind (arith, bars-are, none-of_nothing)

-- so a character before a piece without `||` makes none
no-bars-step : (b : ℕ) (rest piece end before after : List ℕ) → bars_after (b ∷ rest) ≡ None → rest ≡ piece ++ end
    → ¬ HasBars piece → b ∷ piece ≡ before ++ (bar ∷ bar ∷ after) → ⊥
no-bars-step b rest piece end [] after none whole free e = grind arith
no-bars-step b rest piece end (c ∷ before) after none whole free e = grind arith

-- and a character before a piece that does not end in a bar is none at its end
ends-step : (b : ℕ) (rest piece left before : List ℕ) → bars_after (b ∷ rest) ≡ None
    → rest ≡ piece ++ (bar ∷ bar ∷ left) → ¬ EndsInBar piece → b ∷ piece ≡ before ++ (bar ∷ []) → ⊥
ends-step b rest piece left [] none whole free e = grind arith
ends-step b rest piece left (c ∷ before) none whole free e = grind arith

read-step : (b : ℕ) (rest : List ℕ) (p : Piece) → bars_after (b ∷ rest) ≡ None → IsRead rest p
    → IsRead (b ∷ rest) (b ∷ p.0, p.1)
read-step b rest p none read = grind (arith, no-bars-step, ends-step)

-- the piece that is read is such a piece
is-read : (text : List ℕ) → IsRead text (piece_at text)
is-read [] = subst (IsRead []) (sym piece-of_nothing) read-nothing
is-read (b ∷ rest) = elim (bars-cases (b ∷ rest)) [
  | inl none ↦ grind (arith, piece-step b rest none, read-step b rest (piece_at rest) none (is-read rest), is-read rest)
  | inr some ↦ grind (arith, piece-stop (b ∷ rest) some.0 some.1, read-bars (b ∷ rest) some.0 some.1)
]

-- a piece with more after it
pub piece-first : (text piece rest : List ℕ) → piece_at text ≡ (piece, Some rest) → HasFirstPiece text piece rest
piece-first text piece rest same = grind (arith, is-read text)

-- the last piece
pub piece-last : (text piece : List ℕ) → piece_at text ≡ (piece, None) → IsPieces text (piece ∷ [])
piece-last text piece same = grind (arith, is-read text, append-nil piece)

-- the same for a piece and what follows it, if there is more
pub first-found : (text piece : List ℕ) (left : Option (Bor (List ℕ))) → (piece, some_seen left) ≡ piece_at text
    → IfSome left (λ others. HasFirstPiece text piece others.now)
first-found text piece left h1 = grind (arith, piece-first)

pub last-found : (text piece : List ℕ) (left : Option (Bor (List ℕ))) → (piece, some_seen left) ≡ piece_at text
    → IfNone left (IsPieces text (piece ∷ []))
last-found text piece None same = piece-last text piece (sym same)
last-found text piece (Some others) same = tt

-- what follows a piece is shorter than the text
pub piece-shorter : (text piece rest : List ℕ) → HasFirstPiece text piece rest → length rest < length text
piece-shorter text piece rest first = grind (arith, length-append)

-- ---- all pieces

-- a piece before the pieces of the rest
pub before-more : (text piece rest : List ℕ) (pieces : List (List ℕ)) → HasFirstPiece text piece rest
    → IsPieces rest pieces → IsPieces text (piece ∷ pieces)
before-more text piece rest pieces h1 h2 = grind arith

pieces-step : (text piece : List ℕ) (left : Option (List ℕ)) → piece_at text ≡ (piece, left)
    → ((t : List ℕ) → length t < length text → (pieces : List (List ℕ)) × IsPieces t pieces)
    → (pieces : List (List ℕ)) × IsPieces text pieces
pieces-step text piece None read smaller = (piece ∷ [], piece-last text piece read)
pieces-step text piece (Some rest) read smaller =
    let first = piece-first text piece rest read in
    let more = smaller rest (piece-shorter text piece rest first) in
    (piece ∷ more.0, before-more text piece rest more.0 first more.1)

pieces-below : (n : ℕ) (text : List ℕ) → length text < n → (pieces : List (List ℕ)) × IsPieces text pieces
pieces-below zero text h = absurd (omega arith)
pieces-below (suc n) text h =
    pieces-step text (piece_at text).0 (piece_at text).1 refl (λ t lt. pieces-below n t (omega arith))

-- each text is divided
pub pieces-exist : (text : List ℕ) → (pieces : List (List ℕ)) × IsPieces text pieces
pieces-exist text = pieces-below (suc (length text)) text (omega arith)

-- a piece with a bar after it does not begin with `||`
no-bars-before : (b : ℕ) (piece others after : List ℕ) → ¬ HasBars (b ∷ piece) → ¬ EndsInBar (b ∷ piece)
    → b ∷ (piece ++ (bar ∷ others)) ≡ bar ∷ bar ∷ after → ⊥
no-bars-before b [] others after free ends e = grind arith
no-bars-before b (c ∷ piece) others after free ends e =
    let first : b ≡ bar = cc e in
    let second : c ≡ bar = cc e in
    free ([], piece, cc (first, second))

-- `||` in a text, or a bar at its end, is still there with a character before it
more-bars : (b : ℕ) (text : List ℕ) → HasBars text → HasBars (b ∷ text)
more-bars b text bars = (b ∷ bars.0, bars.1, ap (λ (l : List ℕ). b ∷ l) bars.2)

more-ends : (b : ℕ) (text : List ℕ) → EndsInBar text → EndsInBar (b ∷ text)
more-ends b text ends = (b ∷ ends.0, ap (λ (l : List ℕ). b ∷ l) ends.1)

-- a character before a piece
piece-more : (b : ℕ) (rest piece : List ℕ) (left : Option (List ℕ)) → bars_after (b ∷ rest) ≡ None
    → piece_at rest ≡ (piece, left) → piece_at (b ∷ rest) ≡ (b ∷ piece, left)
piece-more b rest piece left none read = grind (arith, piece-step)

-- a first piece is the piece that is read
first-again : (piece others : List ℕ) → ¬ HasBars piece → ¬ EndsInBar piece
    → piece_at (piece ++ (bar ∷ bar ∷ others)) ≡ (piece, Some others)
first-again [] others free ends = piece-stop (bar ∷ bar ∷ others) others refl
first-again (b ∷ piece) others free ends = elim (bars-cases (b ∷ (piece ++ (bar ∷ bar ∷ others)))) [
  | inl none ↦ piece-more b (piece ++ (bar ∷ bar ∷ others)) piece (Some others) none
      (first-again piece others (λ bars. free (more-bars b piece bars)) (λ e. ends (more-ends b piece e)))
  | inr some ↦ absurd (no-bars-before b piece (bar ∷ others) some.0 free ends (bars-are _ some.0 some.1))
]

-- so the first piece of a division is the one that is read
first-is : (text piece others : List ℕ) → HasFirstPiece text piece others → piece_at text ≡ (piece, Some others)
first-is text piece others first = grind (arith, first-again)

-- a text has one division
pub pieces-unique : (text : List ℕ) (one other : List (List ℕ)) → IsPieces text one → IsPieces text other → one ≡ other
pieces-unique text [] other d e = absurd d
pieces-unique text (p ∷ one) [] d e = absurd e
pieces-unique text (p ∷ []) (q ∷ []) d e = ap (λ (l : List ℕ). l ∷ []) (sym d.0 ∙ e.0)
pieces-unique text (p ∷ []) (q ∷ m ∷ other) d e = grind (arith, first-is)
pieces-unique text (p ∷ n ∷ one) (q ∷ []) d e = grind (arith, first-is)
pieces-unique text (p ∷ n ∷ one) (q ∷ m ∷ other) d e =
    let same : ◌≡◌ {A = Piece} (p, Some d.0) (q, Some e.0) = sym (first-is text p d.0 d.1) ∙ first-is text q e.0 e.1 in
    let first : p ≡ q = ap (λ (r : Piece). r.0) same in
    let left : Some d.0 ≡ Some e.0 = ap (λ (r : Piece). r.1) same in
    let rest : d.0 ≡ e.0 = cc left in
    let others : n ∷ one ≡ m ∷ other = pieces-unique e.0 (n ∷ one) (m ∷ other)
    (subst (λ (l : List ℕ). IsPieces l (n ∷ one)) rest d.2) e.2 in grind arith

-- ---- the first piece, from place to place

-- A loop has passed the first i characters, and `||` begins at none of them.
abbrev pub Passed : List ℕ → ℕ → Type 0
Passed text i = piece_at text ≡ behind (take i text) (piece_at (drop i text))

-- one character more
pub seen-step : (text : List ℕ) (i : ℕ) → i < length text → None ≡ bars_after (drop i text) → Passed text i
    → Passed text (i + 1)
seen-step text i h none passed = grind (arith, drop_more text i 0 h, piece-step, append_assoc, take_more text i 0 h)

-- the piece ends where `||` begins
pub seen-stop : (text after : List ℕ) (i : ℕ) → Some after ≡ bars_after (drop i text) → Passed text i
    → (take i text, Some after) ≡ piece_at text
seen-stop text after i seen passed = grind (arith, piece-stop, append-nil)

-- and so it does at the end of the text
pub passed-end : (text : List ℕ) (i : ℕ) → length text ≤ i → Passed text i → (text, None) ≡ piece_at text
passed-end text i h passed = grind (arith, drop_all, piece-of_nothing, take_all, append-nil)

-- ---- the first piece, from bar to bar

no-bars-here : (b : ℕ) (rest : List ℕ) → (b == bar) ≡ false → bars_after (b ∷ rest) ≡ None
no-bars-here b rest h1 = grind arith

-- characters that are no bars
pub pass-free : (text : List ℕ) (i n : ℕ) → i + n ≤ length text
    → ((k : ℕ) → i ≤ k → k < i + n → (get_or text k 0 == bar) ≡ false) → Passed text i → Passed text (i + n)
pass-free text i zero h free passed = subst (Passed text) (omega arith) passed
pass-free text i (suc n) h free passed =
    let before : Passed text (i + n) = pass-free text i n (omega arith)
    (λ k low high. free k low (omega arith)) passed in
    let none : bars_after (drop (i + n) text) ≡ None =
    ap bars_after (drop_more text (i + n) 0 (omega arith))
    ∙ no-bars-here (get_or text (i + n) 0) (drop (i + n + 1) text) (free (i + n) (omega arith) (omega arith)) in
    let after : Passed text (i + n + 1) = seen-step text (i + n) (omega arith) (sym none) before in
    subst (Passed text) (omega arith) after

free-from : (text hay : List ℕ) (i n : ℕ) → hay ≡ drop i text → Nowhere (Passes (is_byte bar) hay) 0 n
    → (k : ℕ) → i ≤ k → k < i + n → (get_or text k 0 == bar) ≡ false
free-from text hay i n same none k low high = grind (
  arith,
  get_or-drop i text (k - i) 0,
  cases_Bool
      (get_or text k 0 == bar),
)

-- up to the first bar of the remaining text
pub pass-to_bar : (text hay : List ℕ) (i n : ℕ) → hay ≡ drop i text → i + n ≤ length text
    → Nowhere (Passes (is_byte bar) hay) 0 n → Passed text i → Passed text (i + n)
pass-to_bar text hay i n same h none passed = pass-free text i n h (free-from text hay i n same none) passed
