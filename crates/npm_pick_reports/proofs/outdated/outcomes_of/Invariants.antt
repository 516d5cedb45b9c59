-- The outcomes so far, and then those of the edges that are left, are the outcomes of all edges.
use Rattle.std.specs.Fn.{FnReturnsAt}
use Rattle.npm_pick_reports.specs.Outdated.{IsOutcome}
use Rattle.npm_pick_reports.proofs.Outcomes.{AreSoFar}
use Rattle.npm_pick_reports.proofs.outdated.outcomes_of.Given as goal

abbrev pub invariant-loop-edge : goal.invariant-loop-edge
invariant-loop-edge g l =
    AreSoFar (IsOutcome (FnReturnsAt g.F.Fn l.load) l.all l.options) l.edges l.edge-index l.outcomes.items
