-- `rsplit_once` parts a path at its last `/`.
use Rattle.npm_packages.proofs.Fronts.{rsplit_parts}
use Rattle.npm_packages.proofs.search.split_last.Goals as goal

pub returns : goal.returns
returns c = rsplit_parts c.args.path.now c.rsplit_once.result c.rsplit_once.ensures.cases
