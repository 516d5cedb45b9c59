-- The index and the rules are those of the packages.
use Rattle.npm_packages.specs.PackageValue.{packages_data}
use Rattle.npm_packages.proofs.edges.edges_in.Goals as goal

pub edges_among-requires-clause-index : goal.edges_among-requires-clause-index
edges_among-requires-clause-index c = c.index.ensures (packages_data c.packages.result) c.packages.ensures

pub edges_among-requires-clause-rules : goal.edges_among-requires-clause-rules
edges_among-requires-clause-rules c = c.rules.ensures (packages_data c.packages.result) c.packages.ensures
