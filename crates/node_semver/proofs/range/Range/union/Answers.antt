use native.Mathlib.Omega.{arith}
use Rattle.std.proofs.Common.{rules, inl, inr}
use Rattle.semver_cuts.specs.Lemmas.InSome.{in_some-either, in_some-left, in_some-right}
use Rattle.semver_cuts.specs.Lemmas.Lists.{any-either, any-left, any-right}
use Rattle.semver_sets.specs.Meaning.{SetAdmits}
use Rattle.semver_texts.specs.Version.{VersionValue}
use Rattle.semver_cuts.specs.Ends.{Ends}
use Rattle.node_semver.proofs.range.Range.union.Goals as goal

pub returns-clause-sets : goal.returns-clause-sets
returns-clause-sets c = search rules

pub returns-clause-cuts : goal.returns-clause-cuts
returns-clause-cuts c = grind (arith, returns-clause-sets, in_some-either, in_some-left, in_some-right)

pub returns-clause-admitted : goal.returns-clause-admitted
returns-clause-admitted c =
    let ones = c.args.self.now in
    let others = c.args.other.now in
    λ v. rw (returns-clause-sets c) (
      any-either (λ (set : Ends VersionValue). SetAdmits set v) ones others,
      λ either. elim either [
        | inl one ↦ any-left (λ (set : Ends VersionValue). SetAdmits set v) ones others one
        | inr other ↦ any-right (λ (set : Ends VersionValue). SetAdmits set v) ones others other
      ],
    )

pub returns-clause-text : goal.returns-clause-text
returns-clause-text c = grind (arith, returns-clause-sets)
