-- One more, and those before stand for the same.
use Rattle.std.proofs.Common.{take}
use Rattle.version_solving.specs.Naming.{IsDemandOf}
use Rattle.version_solving.proofs.Grown.{demands_grow, extends_both, one_more}
use Rattle.version_solving.proofs.problem.demands_of.Goals as goal

pub loop-ask-preserved : goal.loop-ask-preserved
loop-ask-preserved c = record {
  made = λ names are. rw c.in_ok-push.ensures.items (one_more (IsDemandOf names c.demand_of.new.all.list.items) c.args.asks.now
      c.loop-ask.demands.items c.loop-ask.ask-index _ (c.in_ok-demand_of.field-0) c.loop-ask-test.true
      (demands_grow names c.loop-ask.all.list.items c.demand_of.new.all.list.items c.in_ok-demand_of.ensures.extends
      (take c.loop-ask.ask-index c.args.asks.now) c.loop-ask.demands.items (c.loop-ask.invariant.made names are))
      (c.in_ok-demand_of.ensures.demand names are));
  extends = extends_both c.args.all.now.list.items c.loop-ask.all.list.items c.demand_of.new.all.list.items
      c.loop-ask.invariant.extends c.in_ok-demand_of.ensures.extends;
}
