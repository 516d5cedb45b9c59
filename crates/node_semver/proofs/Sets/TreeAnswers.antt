-- What a tree is evaluated to, from its sets: just the cuts of the tree, and the releases of which it holds.
use native.Mathlib.Omega.{arith}
use Rattle.std.proofs.Common.{◌↔◌, List, Option, Result, Ok, Err}
use Rattle.std.specs.Prelude.{IfOk, IfSome, IsNone}
use Rattle.semver_cuts.specs.declared.cut.Cut.{Cut}
use Rattle.semver_cuts.specs.declared.cut.Cut.TheVariants.{Before}
use Rattle.semver_cuts.specs.Ends.{Ends}
use Rattle.semver_sets.specs.Meaning.{RangeAdmits}
use Rattle.semver_sets.specs.RangeSets.{IsRangeValue}
use Rattle.semver_texts.specs.Version.{IsPrerelease, VersionValue}
use Rattle.node_semver.specs.RangeAlgebra.{sets_of_answer}
use Rattle.node_semver.specs.SetTree.{Formula, InFormula}
use Rattle.node_semver.proofs.Sets.AlgebraBounds.{none-exactly}
use Rattle.node_semver.proofs.Sets.RangeAlgebra.{release-admitted}
use Rattle.node_semver.proofs.Sets.TreeSets.{AreWrittenOneWay, HasSetsOf, HaveCutsOf, tree-cuts}

-- the result has exactly the cuts of the tree
abbrev HasCutsOf : {E : Type 0} → Formula → Result (Option (List (Ends VersionValue))) E → Type 0
HasCutsOf tree result = IfOk result (λ answer. HaveCutsOf tree (sets_of_answer answer))

answer-cuts : {E : Type 0} → AreWrittenOneWay → (tree : Formula) (result : Result (Option (List (Ends VersionValue))) E)
    → HasSetsOf tree result → HasCutsOf tree result
answer-cuts h1 tree result h2 = grind (arith, tree-cuts)

-- there is no range exactly where the tree has no cut
answer-none : {E : Type 0} (tree : Formula) (result : Result (Option (List (Ends VersionValue))) E)
    → HasCutsOf tree result → IfOk result (λ answer. IfSome answer IsRangeValue)
    → IfOk result (λ answer. IsNone answer ↔ ((cut : Cut VersionValue) → ¬ InFormula tree cut))
answer-none tree (Err e) has holds = tt
answer-none tree (Ok answer) has holds = none-exactly answer (InFormula tree) holds has

-- the sets with the cuts of a tree admit a release exactly where the tree has the cut before it
answer-releases : {E : Type 0} (tree : Formula) (result : Result (Option (List (Ends VersionValue))) E)
    → HasCutsOf tree result
    → IfOk result (λ answer. (v : VersionValue) → ¬ IsPrerelease v
    → RangeAdmits (sets_of_answer answer) v ↔ InFormula tree (Before v))
answer-releases tree (Err e) has = tt
answer-releases tree (Ok answer) has = λ v release.
    let admits = release-admitted (sets_of_answer answer) v release in
    let same = has (Before v) in
    (λ a. same.0 (admits.0 a), λ is. admits.1 (same.1 is))

-- a result with the sets of the tree meets the promises
pub answered : {E : Type 0} → AreWrittenOneWay → (tree : Formula)
    (result : Result (Option (List (Ends VersionValue))) E)
    → HasSetsOf tree result → IfOk result (λ answer. IfSome answer IsRangeValue)
    → record {
      sets : HasSetsOf tree result;
      cuts : HasCutsOf tree result;
      none : IfOk result (λ answer. IsNone answer ↔ ((cut : Cut VersionValue) → ¬ InFormula tree cut));
      releases : IfOk result (λ answer. (v : VersionValue) → ¬ IsPrerelease v
          → RangeAdmits (sets_of_answer answer) v ↔ InFormula tree (Before v));
      holds : IfOk result (λ answer. IfSome answer IsRangeValue);
    }
answered one_way tree result has holds = grind (arith, answer-cuts, answer-none, answer-releases)
