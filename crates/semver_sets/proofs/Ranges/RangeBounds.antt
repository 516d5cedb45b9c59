-- What the ends of a range always hold, from the words of its text to its sets.
use native.Mathlib.Omega.{arith}
use Rattle.std.proofs.Common.{◌≢◌, ℕ, List, [], ◌∷◌, ◌++◌, Option, Some, None, subst}
use Rattle.std.specs.List.{AllByRecursion}
use Rattle.semver_cuts.specs.Ends.{Ends}
use Rattle.semver_cuts.specs.Lemmas.Lists.{all_middle}
use Rattle.semver_sets.specs.Comparator.{Comparator}
use Rattle.semver_sets.specs.Division.{AreAlternatives, AreLaterAlternatives, IsAlternative, IsDivision, comparators_of}
use Rattle.semver_sets.specs.Meaning.{GiveSet}
use Rattle.semver_sets.specs.Merging.{AreSetsOf, AreSetsOfText, IsSetOf, no_more, none, one_more}
use Rattle.semver_sets.specs.RangeSets.{IsRangeSet, IsRangeValue}
use Rattle.semver_texts.specs.Version.{VersionValue}
use Rattle.semver_sets.specs.Lemmas.Comparators.{IsReadEnds}
use Rattle.semver_sets.specs.Lemmas.Merging.{merged-gives}
use Rattle.semver_sets.proofs.Words.WordBounds.{IsReadWord, word-bounded}

-- ---- alternatives

words-bounded : (text : List ℕ) (words : List (Option Comparator)) → IsDivision text words
    → AllByRecursion IsReadWord words
words-bounded text [] d = absurd d
words-bounded text (w ∷ []) d = (word-bounded text [] w d, tt)
words-bounded text (w ∷ x ∷ words) d =
    (word-bounded d.1.word (d.1.blanks ++ d.0) w d.1.first, words-bounded d.0 (x ∷ words) d.2)

kept-bounded : (words : List (Option Comparator)) → AllByRecursion IsReadWord words
    → AllByRecursion IsReadEnds (comparators_of words)
kept-bounded [] all = tt
kept-bounded (None ∷ words) all = kept-bounded words all.1
kept-bounded (Some c ∷ words) all = (all.0, kept-bounded words all.1)

-- the comparators of an alternative have ends that a range can have
pub alternative-bounded : (text : List ℕ) (comparators : List Comparator) → IsAlternative text comparators
    → AllByRecursion IsReadEnds comparators
alternative-bounded text comparators is = grind (arith, kept-bounded, words-bounded)

-- all comparators of an alternative have such ends
abbrev pub IsReadAlternative : List Comparator → Type 0
IsReadAlternative comparators = AllByRecursion IsReadEnds comparators

later-bounded : (pieces : List (List ℕ)) (alternatives : List (List Comparator))
    → AreLaterAlternatives pieces alternatives → AllByRecursion IsReadAlternative alternatives
later-bounded [] [] are = tt
later-bounded [] (a ∷ alternatives) are = absurd are
later-bounded (piece ∷ pieces) [] are = tt
later-bounded (piece ∷ pieces) (a ∷ alternatives) are =
    (alternative-bounded are.0.others a are.0.alternative, later-bounded pieces alternatives are.1)

all-bounded : (pieces : List (List ℕ)) (alternatives : List (List Comparator)) → AreAlternatives pieces alternatives
    → AllByRecursion IsReadAlternative alternatives
all-bounded [] alternatives are = absurd are
all-bounded (piece ∷ pieces) [] are = tt
all-bounded (piece ∷ pieces) (a ∷ alternatives) are =
    (alternative-bounded piece a are.0, later-bounded pieces alternatives are.1)

-- ---- sets

-- the set of such comparators is one that a range can have
pub set-bounded : (comparators : List Comparator) (set : Ends VersionValue) → GiveSet comparators
    → IsSetOf comparators set → IsReadAlternative comparators → IsRangeSet set
set-bounded comparators set gives is read = grind (
  arith,
  all_middle IsReadEnds is.lower.before is.lower.after
      is.lower.span (subst (AllByRecursion IsReadEnds) is.lower.parts read),
  all_middle IsReadEnds is.upper.before
      is.upper.after is.upper.span (subst (AllByRecursion IsReadEnds) is.upper.parts read),
  merged-gives comparators set
      is,
)

-- so are the sets of such alternatives
pub sets-bounded : (alternatives : List (List Comparator)) (sets : List (Ends VersionValue))
    → AreSetsOf alternatives sets → AllByRecursion IsReadAlternative alternatives → AllByRecursion IsRangeSet sets
sets-bounded [] [] none all = tt
sets-bounded [] (s ∷ sets) are all = elim are [ ]
sets-bounded (a ∷ alternatives) (s ∷ sets) (one_more _ _ _ _ gives is more) all =
    (set-bounded a s gives is all.0, sets-bounded alternatives sets more all.1)
sets-bounded (a ∷ alternatives) sets (no_more _ _ _ nothing more) all = sets-bounded alternatives sets more all.1

-- the sets of a text, where there are any, are what a range holds
pub text-bounded : (text : List ℕ) (sets : List (Ends VersionValue)) → AreSetsOfText text sets → sets ≢ []
    → IsRangeValue sets
text-bounded text sets are some = grind (arith, sets-bounded, all-bounded)
