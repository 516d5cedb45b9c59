use Rattle.std.proofs.Common.{Some, sym, ◌∙◌}
use Rattle.node_semver.proofs.Least.LeastLemmas.{before-least}
use Rattle.node_semver.proofs.range.least.keep_least.Goals as goal

pub returns-in-Before : goal.returns-in-Before
returns-in-Before c =
    let first = before-least c.args.included c.args.set.now c.in-Before.end c.requires.holds
    (sym c.lower.ensures ∙ c.in-Before.is) in
    (Some c.in-Before.end, (first, c.keep_lesser_end.ensures))
