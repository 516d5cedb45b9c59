use Rattle.semver_cuts.proofs.CutOrder.{cut_cmp-order, only_order}
use Rattle.semver_cuts.proofs.laws.cuts_stand_in_order.Goals as goal

pub returns-clause-order : goal.returns-clause-order
returns-clause-order g c = cut_cmp-order g.met.T.Ord.total

pub returns-clause-only : goal.returns-clause-only
returns-clause-only g c = λ order l. only_order g.met.T.Ord.total l
