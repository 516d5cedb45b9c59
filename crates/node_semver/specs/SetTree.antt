-- Trees of ranges: which cuts lie in a tree of range texts, and which sets it has.
--
-- Take `1 || 3` without `1.5`. The cut before 1.4.0 lies in the tree: it lies in the one comparator of `1` and not in
-- that of `1.5`. The cut before 1.5.0 lies in both, and so not in the tree. The sets of the tree are `>=1.0.0 <1.5.0`,
-- `>=1.6.0-0 <2.0.0-0` and `>=3.0.0 <4.0.0-0`.
use Rattle.std.specs.Prelude.{◌≡◌, ◌≢◌, ◌⊎◌, ◌↔◌, ℕ, List, [], string_bytes}
use Rattle.semver_cuts.specs.declared.cut.Cut.{Cut}
use Rattle.semver_cuts.specs.SpanLists.{IsInEvery}
use Rattle.semver_cuts.specs.CommonSpans.{common_spans}
use Rattle.semver_cuts.specs.Ends.{Ends}
use Rattle.semver_cuts.specs.Difference.{AreDifference}
use Rattle.semver_sets.specs.Comparator.{Comparator}
use Rattle.semver_texts.specs.Comparison.{version_cmp}
use Rattle.semver_sets.specs.Division.{IsWritten}
use Rattle.semver_sets.specs.Meaning.{AnyByRecursion, RangeAdmits}
use Rattle.semver_sets.specs.Merging.{AreSetsOfText}
use Rattle.semver_texts.specs.Version.{VersionValue}
use Rattle.node_semver.specs.RangeAlgebra.{PairAdmits}
use Rattle.node_semver.specs.declared.tree.SetTree.{SetTree}
use Rattle.node_semver.specs.declared.tree.SetTree.TheVariants.{Text, Both', Without'}

-- a tree as a value, without its place in memory
pub data Formula : Type 0 where
  of_text : List ℕ → Formula
  both : Formula → Formula → Formula
  without : Formula → Formula → Formula

abbrev pub formula_of : SetTree → Formula
formula_of (Text t) = of_text (string_bytes t)
formula_of (Both' p one q other) = both (formula_of one) (formula_of other)
formula_of (Without' p one q other) = without (formula_of one) (formula_of other)

-- in some alternative that has a comparator, the cut lies in all comparators
pub record TextHasCut (text : List ℕ) (cut : Cut VersionValue) : Type 0 where
  pub alternatives : List (List Comparator)
  pub written : IsWritten text alternatives
  pub common : AnyByRecursion (λ comparators. (comparators ≢ []) × IsInEvery version_cmp comparators cut) alternatives

-- a cut lies in a tree: in its text, in both sides, or in the left side and not in the right side
abbrev pub InFormula : Formula → Cut VersionValue → Type 0
InFormula (of_text t) cut = TextHasCut t cut
InFormula (both one other) cut = InFormula one cut × InFormula other cut
InFormula (without one other) cut = InFormula one cut × ¬ InFormula other cut

-- the sets of a tree in their order: those of its text, or none if the text is refused; those of the intersection of
-- its sides; or those of the left side outside the right side. There are none if the left side has none, whatever the
-- right side is
abbrev pub AreSetsOfTree : Formula → List (Ends VersionValue) → Type 0
AreSetsOfTree (of_text t) sets = AreSetsOfText t sets
AreSetsOfTree (both one other) sets =
    (AreSetsOfTree one [] × (sets ≡ []))
    ⊎ ((ones others : List (Ends VersionValue)) × AreSetsOfTree one ones × AreSetsOfTree other others
    × (sets ≡ common_spans version_cmp ones others))
AreSetsOfTree (without one other) sets =
    (AreSetsOfTree one [] × (sets ≡ []))
    ⊎ ((ones others : List (Ends VersionValue)) × AreSetsOfTree one ones × AreSetsOfTree other others
    × AreDifference version_cmp ones others sets)

-- ---- laws

-- a tree has at most one list of sets
abbrev pub HasOneListOfSets : Formula → Type 0
HasOneListOfSets tree = (one other : List (Ends VersionValue)) → AreSetsOfTree tree one → AreSetsOfTree tree other
    → one ≡ other

-- the sets of `both` admit a version exactly if a set of each side contains it and, if it is a prerelease, an end of
-- one of these two sets opens its triple
abbrev pub AdmitInPairs : Formula → Formula → VersionValue → Type 0
AdmitInPairs one other v = (sets ones others : List (Ends VersionValue)) → AreSetsOfTree (both one other) sets
    → AreSetsOfTree one ones → AreSetsOfTree other others → RangeAdmits sets v ↔ PairAdmits ones others v
