-- Those so far are made of the demands so far.
use Rattle.std.proofs.Common.{◌≡◌, map, take}
use Rattle.npm_resolve.specs.Optional.{root_demand}
use Rattle.npm_resolve.proofs.optional.root_demands.Given as goal

abbrev pub invariant-loop-demand : goal.invariant-loop-demand
invariant-loop-demand l = l.root.items ≡ map (root_demand l.manifests l.names l.ranges) (take l.demand-index l.demands)
