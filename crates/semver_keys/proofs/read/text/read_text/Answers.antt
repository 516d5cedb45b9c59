use Rattle.std.proofs.Common.{◌++◌, ◌∷◌, ◌∙◌, [], ap}
use Rattle.semver_keys.proofs.NumberReading.{empty}
use Rattle.semver_keys.proofs.TextReading.{none-text, shorter, text-read, written-more}
use Rattle.semver_keys.proofs.read.text.read_text.Goals as goal

pub bytes-smaller : goal.bytes-smaller
bytes-smaller c = shorter _ _ _ c.in-Some.ensures.read

pub bytes-preserved : goal.bytes-preserved
bytes-preserved c = (
  c.bytes.invariant.0 ++ c.in-Some.field-0-0 ∷ [],
  written-more _ _ _ _ _ c.bytes.invariant.1 c.in-Some.ensures.read,
)

pub returns-in_default-split_first-clause-none : goal.returns-in_default-split_first-clause-none
returns-in_default-split_first-clause-none c = none-text _ _ _ c.bytes.invariant.1 c.in_default.ensures.none
    (λ r e. let none = empty _ c.in_default-split_first.ensures.cases in cc)

pub returns-then-end-ne0-clause-none : goal.returns-then-end-ne0-clause-none
returns-then-end-ne0-clause-none c = none-text _ _ _ c.bytes.invariant.1 c.in_default.ensures.none
    (λ r e. c.if-end-ne0.true (cc (c.in-Some-split_first.ensures.cases.0)))

pub returns-clause-read : goal.returns-clause-read
returns-clause-read c = text-read _ _ _ _ c.bytes.invariant.1
    (c.in-Some-split_first.ensures.cases.0 ∙ ap (λ n. n ∷ c.in-Some-split_first.others.now) c.if-end-ne0.false)
