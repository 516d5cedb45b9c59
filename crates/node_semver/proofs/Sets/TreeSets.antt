-- The sets of a tree: how they are made of those of its sides, and that they have just the cuts of the tree.
use native.Mathlib.Omega.{arith}
use Rattle.std.proofs.Common.{◌≡◌, ◌↔◌, ℕ, List, [], ◌∷◌, Option, Result, refl, sym, subst, inl, inr}
use Rattle.std.specs.Prelude.{IfOk}
use Rattle.std.specs.List.{AllByRecursion}
use Rattle.semver_cuts.specs.declared.cut.Cut.{Cut}
use Rattle.semver_cuts.specs.SpanLists.{IsInSome}
use Rattle.semver_cuts.specs.CommonSpans.{common_spans}
use Rattle.semver_cuts.specs.Ends.{Ends}
use Rattle.semver_cuts.specs.Difference.{AreDifference, ArePieces}
use Rattle.semver_cuts.specs.Lemmas.CommonSpans.{common_spans-cuts}
use Rattle.semver_cuts.specs.Lemmas.Difference.{difference-cuts}
use Rattle.semver_sets.specs.Comparator.{Comparator}
use Rattle.semver_texts.specs.Comparison.{version_cmp}
use Rattle.semver_sets.specs.Meaning.{GiveSet, IsRefused}
use Rattle.semver_sets.specs.RangeLaws.{IsWrittenOneWay}
use Rattle.semver_sets.specs.Merging.{AreSetsOf, AreSetsOfText, no_more, none}
use Rattle.semver_sets.specs.RangeSets.{IsRangeSet}
use Rattle.semver_texts.specs.Version.{VersionValue}
use Rattle.semver_texts.specs.Lemmas.Public.{version_total}
use Rattle.node_semver.specs.RangeAlgebra.{sets_of_answer}
use Rattle.node_semver.specs.SetTree.{AreSetsOfTree, Formula, InFormula, both, of_text, without}
use Rattle.node_semver.proofs.Sets.TextCuts.{text-cut}

-- the sets of a range, or none
abbrev pub Sets : Type 0
Sets = List (Ends VersionValue)

-- ---- a refused text

none-merged : (alternatives : List (List Comparator))
    → AllByRecursion (λ comparators. ¬ GiveSet comparators) alternatives → AreSetsOf alternatives []
none-merged [] all = none
none-merged (comparators ∷ alternatives) all =
    no_more comparators alternatives [] all.0 (none-merged alternatives all.1)

-- a refused text writes no sets
pub refused-sets : (text : List ℕ) → IsRefused text → AreSetsOfText text []
refused-sets text refused = grind (arith, none-merged)

-- ---- no sets on the right side

-- they have nothing in common with any
pub common-with_none : (sets : Sets) → common_spans version_cmp sets [] ≡ []
common-with_none [] = refl
common-with_none (set ∷ sets) = common-with_none sets

own-piece : (set : Ends VersionValue) → IsRangeSet set → ArePieces version_cmp [] set (set ∷ [])
own-piece set is = grind arith

-- and leave each set as it is
pub difference-without_none : (sets : Sets) → AllByRecursion IsRangeSet sets → AreDifference version_cmp sets [] sets
difference-without_none [] all = refl
difference-without_none (set ∷ sets) all = grind (arith, own-piece set all.0, difference-without_none sets all.1)

-- ---- what a tree is evaluated to

-- the result has the sets of the tree
abbrev pub HasSetsOf : {E : Type 0} → Formula → Result (Option Sets) E → Type 0
HasSetsOf tree result = IfOk result (λ answer. AreSetsOfTree tree (sets_of_answer answer))

-- the intersection of the sets of both sides
pub both-sets : {E : Type 0} (tree one other : Formula) (ones others : Sets) (result : Result (Option Sets) E)
    → tree ≡ both one other → AreSetsOfTree one ones → AreSetsOfTree other others
    → IfOk result (λ answer. sets_of_answer answer ≡ common_spans version_cmp ones others) → HasSetsOf tree result
both-sets tree one other ones others result h1 h2 h3 h4 = grind arith

-- what the sets of the left side have and those of the right one have not
pub without-sets : {E : Type 0} (tree one other : Formula) (ones others : Sets) (result : Result (Option Sets) E)
    → tree ≡ without one other → AreSetsOfTree one ones → AreSetsOfTree other others
    → IfOk result (λ answer. AreDifference version_cmp ones others (sets_of_answer answer)) → HasSetsOf tree result
without-sets tree one other ones others result h1 h2 h3 h4 = grind arith

-- ---- cuts

-- the sets have just the cuts of the tree
abbrev pub HaveCutsOf : Formula → Sets → Type 0
HaveCutsOf tree sets = (cut : Cut VersionValue) → IsInSome version_cmp sets cut ↔ InFormula tree cut

-- the cuts that the sets of two trees share are those of both
shared-cuts : (one other : Formula) (ones others : Sets) → HaveCutsOf one ones → HaveCutsOf other others
    → HaveCutsOf (both one other) (common_spans version_cmp ones others)
shared-cuts one other ones others has has' cut = grind (arith, common_spans-cuts version_total ones others cut)

-- the cuts that the sets of one tree have and those of another have not are those of the one without the other
left-cuts : (one other : Formula) (ones others sets : Sets) → HaveCutsOf one ones → HaveCutsOf other others
    → AreDifference version_cmp ones others sets → HaveCutsOf (without one other) sets
left-cuts one other ones others sets has has' spans cut = grind
    (arith, difference-cuts version_cmp ones others sets spans cut)

-- each text can be divided into words in one way only
abbrev pub AreWrittenOneWay : Type 0
AreWrittenOneWay = (text : List ℕ) → IsWrittenOneWay text

pub tree-cuts : AreWrittenOneWay → (tree : Formula) (sets : Sets) → AreSetsOfTree tree sets → HaveCutsOf tree sets
tree-cuts one_way (of_text t) sets are = text-cut t sets (one_way t) are
tree-cuts one_way (both one other) sets (inl empty) = grind (arith, tree-cuts one_way one [] empty.0)
tree-cuts one_way (both one other) sets (inr made) =
    subst (HaveCutsOf (both one other)) (sym made.4)
    (shared-cuts one other made.0 made.1 (tree-cuts one_way one made.0 made.2) (tree-cuts one_way other made.1 made.3))
tree-cuts one_way (without one other) sets (inl empty) = grind (arith, tree-cuts one_way one [] empty.0)
tree-cuts one_way (without one other) sets (inr made) =
    left-cuts one other made.0 made.1 sets (tree-cuts one_way one made.0 made.2) (tree-cuts one_way other made.1 made.3)
    made.4
