use Rattle.std.proofs.Common.{◌-◌, length}
use Rattle.semver_pairs.proofs.AsciiLemmas.{ascii-take}
use Rattle.semver_pairs.proofs.lines.without_return.Goals as goal

pub returns-in-13-clause-ascii : goal.returns-in-13-clause-ascii
returns-in-13-clause-ascii c = ascii-take c.args.line.now (length c.args.line.now - 1)

pub returns-in_default-clause-ascii : goal.returns-in_default-clause-ascii
returns-in_default-clause-ascii c = λ all. all

pub returns-in_default-2-clause-ascii : goal.returns-in_default-2-clause-ascii
returns-in_default-2-clause-ascii c = λ all. all
