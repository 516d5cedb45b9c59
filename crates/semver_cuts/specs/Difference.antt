-- The part of one list of spans outside another, as a list of spans: 1 to 9 outside 5 to 6 and 2 to 3 is 1 to 2, 3 to 5
-- and 6 to 9.
use Rattle.std.specs.Prelude.{◌≡◌, ◌⊎◌, List, [], ◌∷◌, ◌++◌}
use Rattle.std.specs.List.{AllByRecursion}
use Rattle.std.specs.declared.cmp.Ordering.{Ordering}
use Rattle.std.specs.declared.cmp.Ordering.TheVariants.{Equal}
use Rattle.semver_cuts.specs.declared.cut.Cut.{Cut}
use Rattle.semver_cuts.specs.Cut.{cut_cmp}
use Rattle.semver_cuts.specs.Ends.{Ends, HoldsCut, IsCutBelow, IsInSpan}
use Rattle.semver_cuts.specs.SpanLists.{AreApart, IsInSome, IsWithin}
use Rattle.semver_cuts.specs.ChosenEnds.{IsChosenEnd}

-- the cut lies in the span and in none of the others
abbrev pub IsInDifference : {T : Type 0} → (T → T → Ordering) → List (Ends T) → Ends T → Cut T → Type 0
IsInDifference cmp others one cut = IsInSpan cmp one cut × ¬ IsInSome cmp others cut

-- each cut of the part lies in the span and in none of the others
abbrev pub IsWithinDifference : {T : Type 0} → (T → T → Ordering) → List (Ends T) → Ends T → Ends T → Type 0
IsWithinDifference {T} cmp others one part = (cut : Cut T) → IsInSpan cmp part cut → IsInDifference cmp others one cut

-- the cut is the end of the first of the spans that has an end equal to it
abbrev pub IsFirstAt : {T : Type 0} → (T → T → Ordering) → (Ends T → Cut T) → List (Ends T) → Cut T → Type 0
IsFirstAt cmp end spans cut = IsChosenEnd end (λ c d. ¬ (cut_cmp cmp c d ≡ Equal)) (λ c d. Unit {0}) spans cut

-- where a piece begins: where the span begins, or above that where one of the others ends
abbrev pub IsPieceLower : {T : Type 0} → (T → T → Ordering) → List (Ends T) → Ends T → Cut T → Type 0
IsPieceLower {T} cmp others one cut =
    (cut ≡ one.lower) ⊎ (IsCutBelow cmp one.lower cut × IsFirstAt cmp (λ (span : Ends T). span.upper) others cut)

-- where a piece ends: where the span ends, or below that where one of the others begins
abbrev pub IsPieceUpper : {T : Type 0} → (T → T → Ordering) → List (Ends T) → Ends T → Cut T → Type 0
IsPieceUpper {T} cmp others one cut =
    (cut ≡ one.upper) ⊎ (IsCutBelow cmp cut one.upper × IsFirstAt cmp (λ (span : Ends T). span.lower) others cut)

-- a span that holds a cut, all of whose cuts lie in `one` and in none of the others. No wider span is such
pub record IsPiece {T : Type 0} (cmp : T → T → Ordering) (others : List (Ends T)) (one piece : Ends T) : Type 0 where
  pub holds : HoldsCut cmp piece
  pub left : IsWithinDifference cmp others one piece
  pub greatest : (wider : Ends T) → IsWithinDifference cmp others one wider → IsWithin cmp piece wider
      → IsWithin cmp wider piece
  pub lower : IsPieceLower cmp others one piece.lower
  pub upper : IsPieceUpper cmp others one piece.upper

-- all pieces of one span, in ascending order: each of its cuts outside the others lies in one of them
pub record ArePieces {T : Type 0} (cmp : T → T → Ordering) (others : List (Ends T)) (one : Ends T)
    (pieces : List (Ends T)) : Type 0 where
  pub each : AllByRecursion (IsPiece cmp others one) pieces
  pub ascending : AreApart cmp pieces
  pub all : (cut : Cut T) → IsInDifference cmp others one cut → IsInSome cmp pieces cut

-- the pieces of each span of one list outside the others: those of the first span come first
abbrev pub AreDifference : {T : Type 0} → (T → T → Ordering) → List (Ends T) → List (Ends T) → List (Ends T) → Type 0
AreDifference cmp [] others spans = spans ≡ []
AreDifference {T} cmp (one ∷ ones) others spans = (pieces later : List (Ends T)) × (spans ≡ pieces ++ later)
    × ArePieces cmp others one pieces × AreDifference cmp ones others later
