use Rattle.std.proofs.Common.{take}
use Rattle.node_semver.specs.Private.CandidateViews.{AreSetsTried}
use Rattle.node_semver.proofs.range.least.search.least_candidate.Given as goal

abbrev pub invariant-sets : goal.invariant-sets
invariant-sets g l = AreSetsTried g.I.Inclusion.included (g.Q.Question.wanted g.I.Inclusion.included l.range l.other)
    (take l.set-index l.sets) l.best
