-- What two texts write, with `||` between them: the sets of the one, and then those of the other.
use native.Mathlib.Omega.{arith}
use Rattle.std.proofs.Common.{◌≡◌, ℕ, List, [], ◌∷◌, ◌++◌, append_assoc}
use Rattle.semver_cuts.specs.Ends.{Ends}
use Rattle.semver_texts.specs.Characters.{BeginsWithNo, bar, is_blank}
use Rattle.semver_sets.specs.Comparator.{Comparator}
use Rattle.semver_sets.specs.Division.{AreAlternatives, AreLaterAlternatives, EndsInBar, IsPieces}
use Rattle.semver_sets.specs.Merging.{AreSetsOf, AreSetsOfText, none, one_more, no_more}
use Rattle.semver_sets.specs.Union.{AreJoinable, joined_text}
use Rattle.semver_texts.specs.Version.{VersionValue}

-- ---- pieces

-- a text ends in a bar where what follows a piece of it does
later-ends : (text piece others : List ℕ) → text ≡ piece ++ (bar ∷ bar ∷ others) → EndsInBar others → EndsInBar text
later-ends text piece others whole ends = grind (arith, append_assoc piece (bar ∷ bar ∷ ends.0) (bar ∷ []))

joined-pieces : (one other : List ℕ) (ones others : List (List ℕ)) → ¬ EndsInBar one → IsPieces one ones
    → IsPieces other others → IsPieces (joined_text one other) (ones ++ others)
joined-pieces one other [] others no_end first second = absurd first
joined-pieces one other (piece ∷ []) [] no_end first second = absurd second
joined-pieces one other (piece ∷ []) (next ∷ others) no_end first second = grind arith
joined-pieces one other (piece ∷ next ∷ ones) others no_end first second =
    grind (
      arith,
      append_assoc,
      later-ends,
      joined-pieces first.0 other (next ∷ ones) others (λ ends. no_end (later-ends
          one piece first.0 first.1.whole ends)) first.2 second,
    )

-- ---- alternatives

joined-later : (pieces others : List (List ℕ)) (ones twos : List (List Comparator)) → AreLaterAlternatives pieces ones
    → AreLaterAlternatives others twos → AreLaterAlternatives (pieces ++ others) (ones ++ twos)
joined-later [] others [] twos first second = second
joined-later [] others (one ∷ ones) twos first second = absurd first
joined-later (piece ∷ pieces) others [] twos first second = absurd first
joined-later (piece ∷ pieces) others (one ∷ ones) twos first second =
    (first.0, joined-later pieces others ones twos first.1 second)

-- the prefix of a text begins with no blank where the text does not
begins : (prefix rest text : List ℕ) → text ≡ prefix ++ rest → BeginsWithNo is_blank text
    → BeginsWithNo is_blank prefix
begins prefix rest text h1 h2 = grind arith

first-begins : (text piece : List ℕ) (pieces : List (List ℕ)) → IsPieces text (piece ∷ pieces)
    → BeginsWithNo is_blank text → BeginsWithNo is_blank piece
first-begins text piece pieces h1 h2 = grind (arith, begins)

-- the first piece of such a text is read in the same way if it comes later
all-later : (text : List ℕ) (pieces : List (List ℕ)) (alternatives : List (List Comparator)) → IsPieces text pieces
    → BeginsWithNo is_blank text → AreAlternatives pieces alternatives → AreLaterAlternatives pieces alternatives
all-later text pieces alternatives h1 h2 h3 = grind (arith, first-begins)

joined-alternatives : (pieces others : List (List ℕ)) (ones twos : List (List Comparator))
    → AreAlternatives pieces ones → AreLaterAlternatives others twos
    → AreAlternatives (pieces ++ others) (ones ++ twos)
joined-alternatives pieces others ones twos h1 h2 = grind (arith, joined-later)

-- ---- sets

joined-sets : (ones twos : List (List Comparator)) (sets others : List (Ends VersionValue)) → AreSetsOf ones sets
    → AreSetsOf twos others → AreSetsOf (ones ++ twos) (sets ++ others)
joined-sets _ twos _ others none second = second
joined-sets _ twos _ others (one_more comparators alternatives set sets gives is first) second =
    one_more comparators (alternatives ++ twos) set (sets ++ others) gives is
    (joined-sets alternatives twos sets others first second)
joined-sets _ twos _ others (no_more comparators alternatives sets gives first) second =
    no_more comparators (alternatives ++ twos) (sets ++ others) gives
    (joined-sets alternatives twos sets others first second)

pub sets-of_joined : (one other : List ℕ) (sets others : List (Ends VersionValue)) → AreJoinable one other
    → AreSetsOfText one sets → AreSetsOfText other others
    → AreSetsOfText (joined_text one other) (sets ++ others)
sets-of_joined one other sets others joinable first second = grind (
  arith,
  joined-pieces one other first.written.pieces second.written.pieces joinable.ends_in_none
      first.written.divided second.written.divided,
  joined-alternatives first.written.pieces second.written.pieces
      first.alternatives second.alternatives first.written.read
      (all-later other second.written.pieces second.alternatives second.written.divided joinable.begins_with_none
      second.written.read),
  joined-sets first.alternatives second.alternatives sets others first.merged second.merged,
)
