-- One more, and those before stand for the same.
use Rattle.std.proofs.Common.{subst, take}
use Rattle.version_solving.specs.Naming.{IsCandidateOf}
use Rattle.version_solving.proofs.Grown.{candidates_grow, extends_both, one_more}
use Rattle.version_solving.proofs.problem.package_of.Goals as goal

pub loop-one-preserved : goal.loop-one-preserved
loop-one-preserved c = record {
  made = λ names are. rw c.in_ok-push.ensures.items (one_more (IsCandidateOf names c.demands_of.new.all.list.items) c.args.askers.now
      c.loop-one.candidates.items c.loop-one.one-index c.one-item.result (record { demands = c.in_ok-demands.demands }) c.loop-one-test.true
      (candidates_grow names c.loop-one.all.list.items c.demands_of.new.all.list.items c.in_ok-demands.ensures.extends
      (take c.loop-one.one-index c.args.askers.now) c.loop-one.candidates.items (c.loop-one.invariant.made names are))
      (subst (λ x. IsCandidateOf names c.demands_of.new.all.list.items x (record { demands = c.in_ok-demands.demands })) c.one-item.is
      (rw c.deref.ensures.value at (c.in_ok-demands.ensures.demands names are))));
  extends = extends_both c.args.all.now.list.items c.loop-one.all.list.items c.demands_of.new.all.list.items
      c.loop-one.invariant.extends c.in_ok-demands.ensures.extends;
}
