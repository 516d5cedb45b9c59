-- A tree has one list of sets, and which versions the sets of both sides admit.
use native.Mathlib.Omega.{arith}
use Rattle.std.proofs.Common.{◌≡◌, ◌∙◌, ℕ, List, [], sym, ap, subst, inl, inr}
use Rattle.semver_cuts.specs.CommonSpans.{common_spans}
use Rattle.semver_cuts.specs.Difference.{AreDifference}
use Rattle.semver_texts.specs.Comparison.{version_cmp}
use Rattle.semver_texts.specs.Lemmas.Public.{version_total}
use Rattle.semver_texts.specs.Version.{VersionValue}
use Rattle.semver_sets.specs.Merging.{HasOneMerging}
use Rattle.node_semver.specs.SetTree.{AdmitInPairs, AreSetsOfTree, Formula, HasOneListOfSets, both, of_text, without}
use Rattle.node_semver.proofs.Sets.RangeAlgebra.{common-admits}
use Rattle.node_semver.proofs.Sets.DifferenceUnique.{difference-unique}
use Rattle.node_semver.proofs.Sets.TreeSets.{Sets}

-- no sets have nothing in common with any, and nothing is left of none
common-none : (ones others sets : Sets) → ones ≡ [] → sets ≡ common_spans version_cmp ones others → sets ≡ []
common-none ones others sets empty is = is ∙ ap (λ (l : Sets). common_spans version_cmp l others) empty

difference-none : (ones others sets : Sets) → ones ≡ [] → AreDifference version_cmp ones others sets → sets ≡ []
difference-none ones others sets empty is = subst (λ (l : Sets). AreDifference version_cmp l others sets) empty is

-- a text has at most one list of sets
abbrev pub HaveOneMerging : Type 0
HaveOneMerging = (text : List ℕ) → HasOneMerging text

pub tree-unique : HaveOneMerging → (tree : Formula) → HasOneListOfSets tree
tree-unique merging (of_text t) sets sets' are are' = merging t sets sets' are are'
tree-unique merging (both one other) sets sets' (inl none) (inl none') = none.1 ∙ sym none'.1
tree-unique merging (both one other) sets sets' (inl none) (inr made) =
    none.1 ∙ sym (common-none made.0 made.1 sets' (tree-unique merging one made.0 [] made.2 none.0) made.4)
tree-unique merging (both one other) sets sets' (inr made) (inl none) =
    common-none made.0 made.1 sets (tree-unique merging one made.0 [] made.2 none.0) made.4 ∙ sym none.1
tree-unique merging (both one other) sets sets' (inr made) (inr made') = grind (
  arith,
  tree-unique merging one made.0 made'.0 made.2 made'.2,
  tree-unique merging other made.1 made'.1 made.3
      made'.3,
)
tree-unique merging (without one other) sets sets' (inl none) (inl none') = none.1 ∙ sym none'.1
tree-unique merging (without one other) sets sets' (inl none) (inr made) =
    none.1 ∙ sym (difference-none made.0 made.1 sets' (tree-unique merging one made.0 [] made.2 none.0) made.4)
tree-unique merging (without one other) sets sets' (inr made) (inl none) =
    difference-none made.0 made.1 sets (tree-unique merging one made.0 [] made.2 none.0) made.4 ∙ sym none.1
tree-unique merging (without one other) sets sets' (inr made) (inr made') =
    grind (
      arith,
      difference-unique,
      version_total,
      tree-unique merging one made.0 made'.0 made.2 made'.2,
      tree-unique merging other made.1 made'.1 made.3 made'.3,
    )

-- the sets of both sides are the intersection of the two lists
both-common : HaveOneMerging → (one other : Formula) (sets ones others : Sets) → AreSetsOfTree (both one other) sets
    → AreSetsOfTree one ones → AreSetsOfTree other others → sets ≡ common_spans version_cmp ones others
both-common merging one other sets ones others are has has' = grind (arith, tree-unique)

pub both-admit : HaveOneMerging → (one other : Formula) (v : VersionValue) → AdmitInPairs one other v
both-admit merging one other v sets ones others are has has' = grind
    (arith, both-common merging one other sets ones others are has has', common-admits v ones others)
