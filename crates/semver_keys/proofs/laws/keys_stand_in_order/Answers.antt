use Rattle.semver_keys.specs.Lemmas.CutOrder.{cut-order, versions-order}
use Rattle.semver_keys.proofs.laws.keys_stand_in_order.Goals as goal

pub returns-clause-versions : goal.returns-clause-versions
returns-clause-versions c = versions-order

pub returns-clause-cuts : goal.returns-clause-cuts
returns-clause-cuts c = cut-order
