use Rattle.std.proofs.Common.{inl, inr}
use Rattle.semver_keys.proofs.NumberReading.{empty}
use Rattle.semver_keys.proofs.TextReading.{low-read, none-after_one, none-low}
use Rattle.semver_keys.proofs.read.text.read_low_byte.Goals as goal

pub returns-in_default-clause-none : goal.returns-in_default-clause-none
returns-in_default-clause-none c = none-after_one _ (empty _ c.in_default.ensures.cases)

pub returns-then-second-eq0-clause-none : goal.returns-then-second-eq0-clause-none
returns-then-second-eq0-clause-none c = none-low c.in-Some.second.now _ _
    (elim c.then-second-eq0.either [ inl zero ↦ inl zero | inr more ↦ inr more.1 ]) c.in-Some.ensures.cases.0

pub returns-clause-read : goal.returns-clause-read
returns-clause-read c = low-read _ _ _ c.if-second-eq0.false c.if-second-gt2.false c.in-Some.ensures.cases.0
