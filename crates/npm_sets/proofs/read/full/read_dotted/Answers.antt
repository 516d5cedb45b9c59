use Rattle.std.proofs.Common.{arith, sym}
use Rattle.semver_texts.specs.Lemmas.Public.{number-takes}
use Rattle.npm_sets.proofs.Full.UnpaddedNumbers.{zero-dotted}
use Rattle.npm_sets.proofs.read.full.read_dotted.Goals as goal

pub returns-in-46-clause-read : goal.returns-in-46-clause-read
returns-in-46-clause-read c =
    zero-dotted c.args.text.now (omega arith) (omega arith) (omega arith) (omega arith)

pub returns-in-Ok-default-eq46-clause-limit : goal.returns-in-Ok-default-eq46-clause-limit
returns-in-Ok-default-eq46-clause-limit c =
    (number-takes c.args.text.now _ _ (sym c.in-Ok-default-eq46.ensures)).read.limit
