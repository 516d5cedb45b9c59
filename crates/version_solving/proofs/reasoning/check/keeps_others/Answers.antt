use Rattle.std.proofs.Common.{false, List, None, get_or, subst, ◌<◌, ◌≤◌, length, ap, arith, refl}
use Rattle.std.proofs.lemmas.List.{take_all}
use Rattle.std.proofs.lemmas.List.Elements.{All-more}
use Rattle.version_solving.specs.declared.reasoning.reason.Term.{Term}
use Rattle.version_solving.specs.declared.reasoning.reason.Term.TheVariants.{Making}
use Rattle.version_solving.specs.Reasons.{IsKept}
use Rattle.version_solving.proofs.reasoning.check.keeps_others.Goals as goal

abbrev any : Term
any = Making 0 (record { name = 0; range = None; needed = false })

pub loop-term-preserved : goal.loop-term-preserved
loop-term-preserved c =
    let small : c.loop-term.term-index < length c.args.reason.now.terms.items = omega (arith, ap length c.deref-term-items.ensures.value, c.deref-term-items.ensures.len) in
    let here = subst (λ (xs : List Term). IsKept c.args.name c.args.terms.now (get_or xs c.loop-term.term-index any)) c.deref-term-items.ensures.value
    (c.is_kept.ensures.0 c.if-not-is_kept.false) in
    All-more (IsKept c.args.name c.args.terms.now) c.args.reason.now.terms.items c.loop-term.term-index any small c.loop-term.invariant here

pub returns : goal.returns
returns c =
    let whole : length c.args.reason.now.terms.items ≤ c.loop-term.term-index = omega (arith, ap length c.deref-term-items.ensures.value, c.deref-term-items.ensures.len) in
    (λ yes. rw take_all at c.loop-term.invariant, λ all. refl)
