-- One more, and those before stand for the same.
use Rattle.std.proofs.Common.{subst, take}
use Rattle.version_solving.specs.Naming.{IsPackageOf}
use Rattle.version_solving.proofs.Grown.{packages_grow, extends_both, one_more}
use Rattle.version_solving.proofs.problem.packages_of.Goals as goal

pub loop-one-preserved : goal.loop-one-preserved
loop-one-preserved c = record {
  made = λ names are. rw c.in_ok-push.ensures.items (one_more (IsPackageOf names c.package_of.new.all.list.items) c.args.listed.now
      c.loop-one.packages.items c.loop-one.one-index c.one-item.result (c.in_ok-package_of.field-0) c.loop-one-test.true
      (packages_grow names c.loop-one.all.list.items c.package_of.new.all.list.items c.in_ok-package_of.ensures.extends
      (take c.loop-one.one-index c.args.listed.now) c.loop-one.packages.items (c.loop-one.invariant.made names are))
      (subst (λ x. IsPackageOf names c.package_of.new.all.list.items x (c.in_ok-package_of.field-0)) c.one-item.is
      (rw c.deref.ensures.value at (c.in_ok-package_of.ensures.made names are))));
  extends = extends_both c.args.all.now.list.items c.loop-one.all.list.items c.package_of.new.all.list.items
      c.loop-one.invariant.extends c.in_ok-package_of.ensures.extends;
}
