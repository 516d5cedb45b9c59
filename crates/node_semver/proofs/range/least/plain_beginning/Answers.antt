use Rattle.std.proofs.Common.{◌∙◌, sym}
use Rattle.node_semver.proofs.Least.LeastOfSets.{only-least}
use Rattle.node_semver.proofs.range.least.plain_beginning.Goals as goal

pub returns-in-Before-clause-least : goal.returns-in-Before-clause-least
returns-in-Before-clause-least c included =
    only-least included c.args.sets.now c.set-item.result c.in-Before.end c.in-len1.len_at_least c.in-len1.len_below
    c.set-item.is (sym c.lower.ensures ∙ c.in-Before.is) c.requires
