use Rattle.std.proofs.Common.{arith}
use Rattle.semver_keys.proofs.NumberReading.{empty}
use Rattle.semver_keys.proofs.TextReading.{none-empty, none-end, plain-read}
use Rattle.semver_keys.proofs.read.text.read_byte.Goals as goal

pub returns-in_default-clause-none : goal.returns-in_default-clause-none
returns-in_default-clause-none c = none-empty _ (empty _ c.in_default.ensures.cases)

pub returns-then-first-gt1-clause-read : goal.returns-then-first-gt1-clause-read
returns-then-first-gt1-clause-read c = plain-read _ _ _ (omega arith) c.in-Some.ensures.cases.0

pub returns-then-first-eq0-clause-none : goal.returns-then-first-eq0-clause-none
returns-then-first-eq0-clause-none c = none-end _ _ _ (omega arith) c.in-Some.ensures.cases.0
