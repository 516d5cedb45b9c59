use Rattle.std.proofs.Common.{subst}
use Rattle.std.specs.Prelude.{MatchOption}
use Rattle.node_semver_c.specs.Sets.{AreNoRange, AreSetsGiven}
use Rattle.node_semver_c.proofs.GivenSets.{found-of-given}
use Rattle.node_semver_c.proofs.sets.node_semver_range_from_sets.Goals as goal

pub returns-in-Ok-Some : goal.returns-in-Ok-Some
returns-in-Ok-Some c =
    found-of-given c.args.sets.now c.in-Ok-Some.spans.items c.made.result c.made.new.answer.value
    (subst (λ answer. MatchOption answer (AreNoRange c.args.sets.now)
    (λ spans. AreSetsGiven c.args.sets.now spans.items))
    c.in-Ok-Some.field-0-is c.in-Ok-Some.ensures) c.made.ensures
