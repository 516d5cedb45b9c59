-- The ranges of the root's demands are added behind those of the packages.
use Rattle.version_solving.proofs.Grown.{packages_grow}
use Rattle.version_solving.proofs.problem.by_number.Goals as goal

pub returns : goal.returns
returns c = record {
  root_demands = c.in_ok-root.ensures.demands c.args.listed.now c.in_ok-numbers.ensures;
  packages = packages_grow c.args.listed.now c.packages_of.new.all.list.items c.demands_of.new.all.list.items
      c.in_ok-root.ensures.extends c.args.listed.now c.in_ok-packages.packages.items
      (c.in_ok-packages.ensures.packages c.args.listed.now c.in_ok-numbers.ensures);
}
