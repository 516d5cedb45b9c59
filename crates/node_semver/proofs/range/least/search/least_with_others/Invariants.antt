use Rattle.std.proofs.Common.{take}
use Rattle.node_semver.specs.Private.CandidateViews.{AreEndsTried}
use Rattle.node_semver.proofs.range.least.search.least_with_others.Given as goal

abbrev pub invariant-sets : goal.invariant-sets
invariant-sets g l =
    AreEndsTried g.I.Inclusion.included (g.Q.Question.wanted g.I.Inclusion.included l.range l.other) g.Q.Question.end
    l.range (take l.set-index l.sets) l.best
