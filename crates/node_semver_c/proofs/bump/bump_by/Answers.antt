use Rattle.std.proofs.Common.{Option, refl, subst, sym, ◌≡◌, ◌∙◌}
use Rattle.std.specs.Prelude.{MatchOption, None, Some}
use Rattle.node_semver_c.specs.Bumped.{no_identifier}
use Rattle.node_semver_c.proofs.Bumps.{empty-text, filled-text, known, reported-of}
use Rattle.node_semver_c.proofs.bump.bump_by.Goals as goal
use Rattle.semver_texts.specs.Identifier.{value_of}
use Rattle.semver_texts.specs.IdentifierText.{IsIdentifierText, identifier_of}
use Rattle.semver_texts.specs.declared.identifier.Identifier.{Identifier}

pub returns-then-is_empty : goal.returns-then-is_empty
returns-then-is_empty c =
    reported-of c.args.bump c.args.text.now c.args.base c.args.version.now None c.keep_bumped.result
    c.keep_bumped.new.answer.value
    (empty-text c.args.text.now (sym c.is_empty.ensures ∙ c.if-is_empty.true)) c.keep_bumped.ensures

pub returns-in-Ok-Some : goal.returns-in-Ok-Some
returns-in-Ok-Some c =
    let text = c.args.text.now in
    let read = subst (λ (found : Option Identifier). MatchOption found (¬ IsIdentifierText text)
    (λ i. IsIdentifierText text × (value_of i ≡ identifier_of text))) c.in-Ok-Some.field-0-is c.in-Ok-Some.ensures in
    reported-of c.args.bump text c.args.base c.args.version.now (Some (value_of c.in-Ok-Some.identifier))
    c.keep_bumped-in-Ok-Some.result c.keep_bumped-in-Ok-Some.new.answer.value (read.0, sym read.1)
    c.keep_bumped-in-Ok-Some.ensures

pub returns-in-Ok-None : goal.returns-in-Ok-None
returns-in-Ok-None c =
    let text = c.args.text.now in
    let read = subst (λ (found : Option Identifier). MatchOption found (¬ IsIdentifierText text)
    (λ i. IsIdentifierText text × (value_of i ≡ identifier_of text))) c.in-Ok-None.field-0-is c.in-Ok-None.ensures in
    no_identifier (known c.args.bump c.args.base)
    (filled-text text (sym c.is_empty.ensures ∙ c.if-is_empty.false), read) refl c.requires
