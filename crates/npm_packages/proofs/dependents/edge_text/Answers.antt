-- The text is that of what the spec is, or the one that is no range.
use Rattle.std.proofs.Common.{inl, inr, subst}
use Rattle.npm_texts.specs.SpecGrammar.{IsSpec, spec_value}
use Rattle.npm_texts.specs.declared.spec.Spec.{Spec}
use Rattle.npm_packages.specs.Dependents.{by_spec, elsewhere, overridden}
use Rattle.npm_packages.proofs.dependents.edge_text.Goals as goal

pub returns-then-edge : goal.returns-then-edge
returns-then-edge c = overridden c.if-edge.true

pub returns-in-Text : goal.returns-in-Text
returns-in-Text c = by_spec c.in-Text.text.now c.if-edge.false c.in-Text.ensures.written

pub returns-in-Location : goal.returns-in-Location
returns-in-Location c =
    let of = λ (spec : Spec). IsSpec c.args.edge.spec.now (spec_value spec) in
    elsewhere c.if-edge.false (elim c.in-Location.is [
      | inl is ↦ inl (subst of is c.spec_of.ensures.written)
      | inr is ↦ inr (subst of is c.spec_of.ensures.written)
    ])
