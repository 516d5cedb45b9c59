-- The cuts of a text: those of the sets that it writes, and none where it is refused.
use native.Mathlib.Omega.{arith}
use Rattle.std.proofs.Common.{◌≢◌, ◌↔◌, ℕ, List, [], ◌∷◌, subst}
use Rattle.semver_cuts.specs.declared.cut.Cut.{Cut}
use Rattle.semver_cuts.specs.SpanLists.{IsInEvery, IsInSome}
use Rattle.semver_cuts.specs.Ends.{Ends}
use Rattle.semver_cuts.specs.Lemmas.ChosenEnds.{in_every-between}
use Rattle.semver_sets.specs.Comparator.{Comparator}
use Rattle.semver_texts.specs.Comparison.{version_cmp}
use Rattle.semver_sets.specs.Meaning.{AnyByRecursion}
use Rattle.semver_sets.specs.Merging.{AreSetsOf, AreSetsOfText, no_more, none, one_more}
use Rattle.semver_texts.specs.Version.{VersionValue}
use Rattle.semver_texts.specs.Lemmas.Public.{version_total}
use Rattle.semver_sets.specs.RangeLaws.{IsWrittenOneWay}
use Rattle.node_semver.specs.SetTree.{TextHasCut}

-- the alternative is not empty, and the cut lies in all of its comparators
abbrev pub HasCutSome : Cut VersionValue → List Comparator → Type 0
HasCutSome cut comparators = (comparators ≢ []) × IsInEvery version_cmp comparators cut

-- the cuts of sets are those of the alternatives from which they are merged
sets-cut : (alternatives : List (List Comparator)) (sets : List (Ends VersionValue)) (cut : Cut VersionValue)
    → AreSetsOf alternatives sets → IsInSome version_cmp sets cut ↔ AnyByRecursion (HasCutSome cut) alternatives
sets-cut [] [] cut none = (λ nowhere. nowhere, λ nowhere. nowhere)
sets-cut [] (s ∷ sets) cut m = elim m [ ]
sets-cut (c ∷ alternatives) (s ∷ sets) cut (one_more _ _ _ _ g i more) = grind
    (arith, in_every-between, version_total, sets-cut alternatives sets cut more)
sets-cut (c ∷ alternatives) sets cut (no_more _ _ _ n more) = grind (arith, sets-cut alternatives sets cut more)

-- the cuts of the sets that a text writes are those of the text
pub text-cut : (text : List ℕ) (sets : List (Ends VersionValue)) → IsWrittenOneWay text → AreSetsOfText text sets
    → (cut : Cut VersionValue)
    → IsInSome version_cmp sets cut ↔ TextHasCut text cut
text-cut text sets one_way m cut =
    let same = sets-cut m.alternatives sets cut m.merged in (
      λ some. record { alternatives = m.alternatives; written = m.written; common = same.0 some },
      λ has. same.1 (subst (AnyByRecursion (HasCutSome cut))
          (one_way has.alternatives m.alternatives has.written m.written) has.common),
    )
