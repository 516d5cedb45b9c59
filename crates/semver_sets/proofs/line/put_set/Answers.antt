use Rattle.std.proofs.Common.{arith, rules}
use Rattle.semver_sets.proofs.Texts.LineText.{alone_text, at_least_text, whole_if_put}
use Rattle.semver_sets.proofs.line.put_set.Goals as goal

pub returns-in-After-clause-text : goal.returns-in-After-clause-text
returns-in-After-clause-text c =
    whole_if_put _ c.args.line.now _ _ _ (omega arith)
    (alone_text c.args.set.now c.in-Before.low c.in-After.high (search rules) (search rules)
    (search rules))
    c.put_version.ensures.text

pub returns-in-End-clause-text : goal.returns-in-End-clause-text
returns-in-End-clause-text c =
    whole_if_put _ c.args.line.now _ _ _ (omega arith)
    (at_least_text c.args.set.now c.in-Before.low (search rules) (search rules))
    c.put_at_least.ensures.text
