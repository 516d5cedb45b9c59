use Rattle.std.proofs.Common.{ap, inl, inr, map}
use Rattle.semver_command.specs.Increment.{not_alone}
use Rattle.semver_command.specs.Ranges.{text_value}
use Rattle.semver_command.proofs.Answered.{none_raised, one_raised, some_mapped}
use Rattle.semver_command.proofs.answer.raised.Goals as goal

pub returns-then-is_nothing-clause-raised : goal.returns-then-is_nothing-clause-raised
returns-then-is_nothing-clause-raised c = none_raised c.args.bump (text_value c.args.asked.now.identifier)
    c.args.asked.now.base (map text_value c.args.asked.now.ranges.items) c.args.versions.now c.if-is_nothing.ensures

pub returns-then-not-is_nothing-clause-raised : goal.returns-then-not-is_nothing-clause-raised
returns-then-not-is_nothing-clause-raised c = not_alone c.args.versions.now c.if-is_nothing.ensures
    (inr (some_mapped text_value c.args.asked.now.ranges.items (rw c.deref.ensures.value at c.if-not-is_nothing.ensures)))

pub returns-in_default-clause-raised : goal.returns-in_default-clause-raised
returns-in_default-clause-raised c = not_alone c.args.versions.now c.if-is_nothing.ensures (inl c.in_default.ensures)

pub returns-clause-raised : goal.returns-clause-raised
returns-clause-raised c = one_raised c.args.bump (text_value c.args.asked.now.identifier) c.args.asked.now.base
    (map text_value c.args.asked.now.ranges.items) c.args.versions.now c.in-Some.version.now c.in_ok-outcome.outcome
    (ap (map text_value) (rw c.deref.ensures.value at c.if-not-is_nothing.ensures)) c.in-Some.ensures
    c.in_ok-outcome.ensures.version
