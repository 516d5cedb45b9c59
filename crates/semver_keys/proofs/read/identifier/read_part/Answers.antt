use Rattle.std.proofs.Common.{arith}
use Rattle.semver_keys.proofs.IdentifierReading.{none-empty, none-mark, none-number, none-text}
use Rattle.semver_keys.proofs.NumberReading.{empty}
use Rattle.semver_keys.proofs.read.identifier.read_part.Goals as goal

pub returns-in_default-clause-none : goal.returns-in_default-clause-none
returns-in_default-clause-none c = none-empty _ (empty _ c.in_default.ensures.cases)

pub returns-in-None-clause-none : goal.returns-in-None-clause-none
returns-in-None-clause-none c = none-number _ _ _ c.in-1.is c.in-Some.ensures.cases.0 c.in-None.ensures.none

pub returns-in-None-read_text-clause-none : goal.returns-in-None-read_text-clause-none
returns-in-None-read_text-clause-none c =
    none-text _ _ _ c.in-2.is c.in-Some.ensures.cases.0 c.in-None-read_text.ensures.none

pub returns-in_default-mark-clause-none : goal.returns-in_default-mark-clause-none
returns-in_default-mark-clause-none c = none-mark _ _ _ (λ e. omega arith) (λ e. omega arith) c.in-Some.ensures.cases.0
