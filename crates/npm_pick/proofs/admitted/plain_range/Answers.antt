-- The text is a range, or no range, or an alias or a location.
use Rattle.std.proofs.Common.{◌≡◌, ◌∙◌, false, sym}
use Rattle.npm_texts.specs.RangeText.{is_plain}
use Rattle.npm_pick.proofs.Reading.{read_plain, read_wanted}
use Rattle.npm_pick.proofs.admitted.plain_range.Goals as goal

pub returns-then-is_plain : goal.returns-then-is_plain
returns-then-is_plain c = read_plain c.args.text.now c.range_of.result (sym c.is_plain.ensures ∙ c.if-is_plain.true)
    (read_wanted c.args.text.now c.range_of.result c.range_of.ensures.refused c.range_of.ensures.means)

pub returns-else-is_plain : goal.returns-else-is_plain
returns-else-is_plain c = λ v. (
  (λ inside. absurd inside),
  (λ within.
      let no : is_plain c.args.text.now ≡ false = sym c.is_plain.ensures ∙ c.if-is_plain.false in
      cc (within.0, no)),
)
