use Rattle.std.proofs.Common.{rules}
use Rattle.semver_texts.proofs.NumberFirst.{number-alone, number-before}
use Rattle.semver_texts.proofs.parse.listed.split_number.Goals as goal

pub returns-in-empty : goal.returns-in-empty
returns-in-empty c =
    number-alone c.args.text.now c.in-Ok.rest.now c.in-Ok.number c.requires c.in-Ok.ensures c.in-empty.len_below

pub returns-in-46 : goal.returns-in-46
returns-in-46 c =
    number-before c.args.text.now c.in-Ok.rest.now c.in-Ok.number c.requires c.in-Ok.ensures c.in-46.len_at_least
    (search rules)
