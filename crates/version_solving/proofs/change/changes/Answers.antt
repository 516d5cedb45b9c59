-- What would fit in place of one demand more, in the same documents.
use Rattle.std.proofs.Common.{◌∙◌, false, get_or, subst}
use Rattle.version_solving.specs.Documents.{problem_of}
use Rattle.version_solving.specs.Fitting.{IsChange}
use Rattle.version_solving.specs.declared.demand.Demand.{Demand}
use Rattle.version_solving.proofs.Grown.{one_more}
use Rattle.version_solving.proofs.TurnedDocuments.{same_problem}
use Rattle.version_solving.proofs.change.changes.Goals as goal

abbrev any : Demand
any = record { name = 0; range = 0; needed = false }

pub loop-demand-preserved : goal.loop-demand-preserved
loop-demand-preserved c = record {
  found = rw c.in_ok-push.ensures.items (one_more (IsChange (problem_of c.args.root.now c.args.documents.now)) c.args.demands.now
      c.loop-demand.found.items c.loop-demand.demand-index any c.in_ok-change_of.field-0 c.loop-demand-test.true c.loop-demand.invariant.found
      (subst (λ p. IsChange p (get_or c.args.demands.now c.loop-demand.demand-index any) c.in_ok-change_of.field-0)
      (same_problem c.args.root.now c.loop-demand.documents c.args.documents.now c.loop-demand.invariant.ranges c.loop-demand.invariant.packages)
      c.in_ok-change_of.ensures.change));
  ranges = c.in_ok-change_of.ensures.ranges ∙ c.loop-demand.invariant.ranges;
  packages = c.in_ok-change_of.ensures.packages ∙ c.loop-demand.invariant.packages;
}
