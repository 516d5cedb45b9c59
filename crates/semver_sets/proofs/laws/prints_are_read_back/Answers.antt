use Rattle.semver_sets.proofs.Prints.RangePrintReading.{range-reads_back}
use Rattle.semver_sets.proofs.laws.prints_are_read_back.Goals as goal

pub returns : goal.returns
returns c = range-reads_back
