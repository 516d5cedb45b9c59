-- The text is a location or an alias, or neither.
use Rattle.std.proofs.Common.{◌∙◌, refl, sym}
use Rattle.std.proofs.lemmas.Result.{IfOk-weaker}
use Rattle.npm_resolve.specs.Meanings.{by_text, elsewhere, nothing}
use Rattle.npm_resolve.proofs.candidates.meaning.meaning_of.Goals as goal

pub returns-then-is_plain : goal.returns-then-is_plain
returns-then-is_plain c =
    let plain = rw c.filled-text.ensures at (sym c.is_plain.ensures ∙ c.if-is_plain.true) in
    IfOk-weaker c.meaning_by_text.result _ _ (λ meaning read. (read.0, by_text read.0 plain read.1, read.2))
    (rw c.filled-text.ensures at c.meaning_by_text.ensures)

pub returns-else-is_plain : goal.returns-else-is_plain
returns-else-is_plain c =
    let other = rw c.filled-text.ensures at (sym c.is_plain.ensures ∙ c.if-is_plain.false) in
    (nothing, elsewhere other, refl)
