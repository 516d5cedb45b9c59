use Rattle.std.proofs.Common.{List, Option, ◌+◌, subst, sym, take}
use Rattle.std.specs.Prelude.{MatchOption}
use Rattle.node_semver_c.specs.Sets.{AreSetsGiven, IsNoSet, IsSetGiven}
use Rattle.node_semver_c.proofs.GivenSets.{given-more, none-given}
use Rattle.node_semver_c.proofs.sets.spans_of.Goals as goal
use Rattle.semver_cuts.specs.Ends.{Ends}
use Rattle.semver_texts.specs.Version.{VersionValue}

pub returns-in_default : goal.returns-in_default
returns-in_default c =
    let given = c.set-item.result in
    none-given c.args.sets.now c.sets.set-index given c.sets-test.true c.set-item.is
    (subst (λ (set : Option (Ends VersionValue)). MatchOption set (IsNoSet given) (λ span. IsSetGiven given span))
    c.in_default.is c.in_ok-span.ensures)

pub sets-preserved : goal.sets-preserved
sets-preserved c =
    let given = c.set-item.result in
    subst (λ (sets : List (Ends VersionValue)). AreSetsGiven (take (c.sets.set-index + 1) c.args.sets.now) sets)
    (sym c.in_ok-push.ensures.items)
    (given-more c.args.sets.now c.sets.set-index given c.sets.spans.items c.in-Some.span c.sets-test.true
    c.set-item.is c.sets.invariant
    (subst (λ (set : Option (Ends VersionValue)). MatchOption set (IsNoSet given) (λ span. IsSetGiven given span))
    c.in-Some.is c.in_ok-span.ensures))
