use Rattle.npm_sets.proofs.Prints.PrintedRanges.{reads-back}
use Rattle.npm_sets.proofs.laws.prints_are_read_back_by_npm.Goals as goal

pub returns : goal.returns
returns c = reads-back
