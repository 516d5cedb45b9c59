use Rattle.std.proofs.Common.{arith}
use Rattle.semver_keys.proofs.NumberReading.{empty, none-empty, short-read}
use Rattle.semver_keys.proofs.read.number.read_number.Goals as goal

pub returns-in_default-clause-none : goal.returns-in_default-clause-none
returns-in_default-clause-none c = none-empty _ (empty _ c.in_default.ensures.cases)

pub returns-then-from-lt-SHORT_NUMBERS-clause-read : goal.returns-then-from-lt-SHORT_NUMBERS-clause-read
returns-then-from-lt-SHORT_NUMBERS-clause-read c = short-read _ _ _ (omega arith) (cc (c.in-Some.ensures.cases.0, c.from-then-from-lt-SHORT_NUMBERS.ensures))
