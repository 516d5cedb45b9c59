-- `starts_with` is the word of std, and `contains` finds exactly the parts of the text.
use Rattle.std.proofs.Common.{codes, inl, inr, ◌∙◌, sym}
use Rattle.std.proofs.lemmas.Str.Pattern.{contains_text, starts_text}
use Rattle.npm_packages.proofs.folder.is_installed.Goals as goal

pub returns-then-starts_with : goal.returns-then-starts_with
returns-then-starts_with c =
    let starts = starts_text c.starts_with.result (codes "node_modules/") c.args.folder.now
    c.starts_with.ensures.cases in
    ((λ yes. inl (sym starts ∙ yes)), (λ inside. c.if-starts_with.true))

pub returns-else-starts_with : goal.returns-else-starts_with
returns-else-starts_with c =
    let starts = starts_text c.starts_with.result (codes "node_modules/") c.args.folder.now
    c.starts_with.ensures.cases in
    let found = contains_text c.contains.result (codes "/node_modules/") c.args.folder.now
    c.contains.ensures.cases in (
      (λ yes. inr (found.0 yes)),
      (λ inside. elim inside [
        | inl first ↦ cc (starts, first, c.if-starts_with.false)
        | inr later ↦ found.1 later
      ]),
    )
