-- Those so far, and then those that are left, are all.
use Rattle.std.proofs.Common.{◌≡◌, ◌++◌, drop, map}
use Rattle.npm_resolve.specs.Optional.{unmet_names}
use Rattle.npm_resolve.specs.Texts.{text}
use Rattle.npm_resolve.proofs.optional.unmet_names.Given as goal

abbrev pub invariant-loop-demand : goal.invariant-loop-demand
invariant-loop-demand l = map text l.unmet.items ++ unmet_names l.manifests l.names l.ranges (drop l.demand-index l.demands)
    ≡ unmet_names l.manifests l.names l.ranges l.demands
