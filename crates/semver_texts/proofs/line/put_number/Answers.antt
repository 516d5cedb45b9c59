use Rattle.std.proofs.lemmas.Grind.{common_steps}
use Rattle.std.proofs.Common.{arith, rules}
use Rattle.std.proofs.lemmas.Fmt.{length-decimal-le}
use Rattle.semver_texts.proofs.line.put_number.Goals as goal

pub write_digits-requires : goal.write_digits-requires
write_digits-requires c =
    (omega (arith, length-decimal-le 20 c.args.n (omega arith) (omega arith) c.ranges.n.fits), search rules)

pub returns-clause-place : goal.returns-clause-place
returns-clause-place c =
    grind (arith, common_steps, length-decimal-le 20 c.args.n (omega arith) (omega arith) c.ranges.n.fits)
