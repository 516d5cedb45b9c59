-- A name that is empty is none.
use Rattle.std.proofs.Common.{◌∙◌, inl, inr, refl, sym}
use Rattle.npm_advisories.proofs.Auditing.{empty-of, not-empty}
use Rattle.npm_advisories.proofs.lock.said_or_unsaid.Goals as goal

pub returns-then-is_empty : goal.returns-then-is_empty
returns-then-is_empty c =
    inr (empty-of c.args.said.now (sym c.is_empty.ensures ∙ c.if-is_empty.true), c.unsaid_name.ensures)

pub returns-else-is_empty : goal.returns-else-is_empty
returns-else-is_empty c = inl (refl, not-empty c.args.said.now (sym c.is_empty.ensures ∙ c.if-is_empty.false))
