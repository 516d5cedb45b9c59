-- The text is a version, a range or a tag, or it is an alias or a location.
use Rattle.std.proofs.Common.{◌∙◌, inl, inr, sym}
use Rattle.npm_pick.specs.Pick.{answer_value, by_text, elsewhere}
use Rattle.npm_pick.proofs.picked.pick_for.Goals as goal

pub returns-then-is_plain : goal.returns-then-is_plain
returns-then-is_plain c = elim c.pick_by_text.ensures [
  | inl memory ↦ inl memory
  | inr h ↦ inr (by_text (answer_value c.pick_by_text.result) (sym c.is_plain.ensures ∙ c.if-is_plain.true) h)
]

pub returns-else-is_plain : goal.returns-else-is_plain
returns-else-is_plain c = inr (elsewhere (sym c.is_plain.ensures ∙ c.if-is_plain.false))
