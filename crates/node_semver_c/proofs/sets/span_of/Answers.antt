use Rattle.std.proofs.Common.{Option, subst}
use Rattle.std.specs.Prelude.{MatchOption}
use Rattle.node_semver_c.specs.Sets.{IsCutGiven, IsNoCut}
use Rattle.node_semver_c.proofs.GivenSets.{span-given}
use Rattle.node_semver_c.proofs.sets.span_of.Goals as goal
use Rattle.semver_cuts.specs.declared.cut.Cut.{Cut}
use Rattle.semver_texts.specs.Version.{VersionValue}

pub returns-in-Some-Some : goal.returns-in-Some-Some
returns-in-Some-Some c =
    let lower = c.args.set.now.lower in let upper = c.args.set.now.upper in
    span-given c.args.set.now c.in-Some-Some.lower c.in-Some-Some.upper c.new.result
    (subst (λ (cut : Option (Cut VersionValue)). MatchOption cut (IsNoCut lower) (λ x. IsCutGiven lower x))
    c.in-Some-Some.is-0 c.in_ok-lower.ensures)
    (subst (λ (cut : Option (Cut VersionValue)). MatchOption cut (IsNoCut upper) (λ x. IsCutGiven upper x))
    c.in-Some-Some.is-1 c.in_ok-upper.ensures)
    c.new.ensures.cut c.new.ensures.ends
