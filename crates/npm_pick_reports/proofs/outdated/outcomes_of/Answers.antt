-- Nothing is left after the last dependency.
use Rattle.std.proofs.Common.{map}
use Rattle.std.specs.Fn.{FnReturnsAt}
use Rattle.npm_packages.specs.Edges.{edge_value}
use Rattle.npm_pick.specs.Lemmas.Gathering.{seen_there}
use Rattle.npm_pick_reports.specs.Outdated.{IsNeededForOne, IsOutcome}
use Rattle.npm_pick_reports.proofs.Mirrors.{needed_too}
use Rattle.npm_pick_reports.proofs.Outcomes.{outcomes_all}
use Rattle.npm_pick_reports.proofs.outdated.outcomes_of.Goals as goal

pub returns-clause-found : goal.returns-clause-found
returns-clause-found g c =
    outcomes_all (IsOutcome (FnReturnsAt g.F.Fn c.args.load) c.args.all c.args.options.now) c.args.edges.now
    c.loop-edge.edge-index c.loop-edge.outcomes.items c.loop-edge-test.false c.loop-edge.invariant

pub returns-in-Err-clause-failed : goal.returns-in-Err-clause-failed
returns-in-Err-clause-failed g c =
    needed_too (FnReturnsAt g.F.Fn c.args.load) _ (IsNeededForOne c.args.all (map edge_value c.args.edges.now)) c.in-Err.error
    (λ name is. (_, seen_there edge_value c.args.edges.now c.loop-edge.edge-index _ c.loop-edge-test.true, is)) c.in-Err.ensures.failed
