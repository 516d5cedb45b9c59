-- A plain range is a text of the grammar.
use Rattle.std.proofs.Common.{◌∙◌, sym}
use Rattle.npm_lock.proofs.PlainRanges.{plain_range}
use Rattle.npm_lock.proofs.verdict.is_plain_range.Goals as goal

pub returns-then-not-begins_range : goal.returns-then-not-begins_range
returns-then-not-begins_range c = λ never. cc never

pub returns : goal.returns
returns c = λ yes. plain_range c.args.spec.now (sym c.begins_range.ensures ∙ c.if-not-begins_range.false)
    (sym c.has_range_bytes_alone.ensures ∙ yes)
