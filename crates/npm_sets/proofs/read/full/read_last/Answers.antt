use Rattle.std.proofs.Common.{arith, sym}
use Rattle.semver_texts.specs.Lemmas.Public.{number-takes}
use Rattle.npm_sets.proofs.Full.UnpaddedNumbers.{zero-last}
use Rattle.npm_sets.proofs.read.full.read_last.Goals as goal

pub returns-in-empty-clause-read : goal.returns-in-empty-clause-read
returns-in-empty-clause-read c =
    zero-last c.args.text.now (omega arith) (omega arith) (omega arith)

pub returns-in-Ok-default-empty-clause-limit : goal.returns-in-Ok-default-empty-clause-limit
returns-in-Ok-default-empty-clause-limit c =
    (number-takes c.args.text.now _ _ (sym c.in-Ok-default-empty.ensures)).read.limit
