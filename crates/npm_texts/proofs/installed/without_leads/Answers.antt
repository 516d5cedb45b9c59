-- The first character that is left is a lead, or the text begins with it.
use Rattle.std.proofs.Common.{◌≡◌, ◌∙◌, ◌∷◌, [], IsUtf8, ap, chars, sym}
use Rattle.std.proofs.lemmas.List.{nil_from_length}
use Rattle.std.proofs.lemmas.Str.{chars-nil, chars_past_char}
use Rattle.std.specs.Str.Iter.{chars_rest}
use Rattle.npm_texts.specs.InstalledVersions.{is_lead}
use Rattle.npm_texts.specs.WhiteSpace.{without_start}
use Rattle.npm_texts.proofs.BareTexts.{start-goes, start-stays}
use Rattle.npm_texts.proofs.installed.without_leads.Goals as goal

pub leads-preserved : goal.leads-preserved
leads-preserved c =
    let utf8 : IsUtf8 (chars_rest c.leads.left) = rw c.as_str-rest.ensures at c.as_str-rest.utf8 in
    let past : chars (chars_rest c.leads.left) ≡ c.in-Some.c ∷ chars (chars_rest c.next.new.self) =
    chars_past_char (chars_rest c.leads.left) (chars_rest c.next.new.self) c.in-Some.c utf8 c.in-Some.ensures.steps.0 in
    sym (start-goes is_lead c.in-Some.c (chars (chars_rest c.next.new.self)) (sym c.is_lead.ensures ∙ c.if-is_lead.true))
    ∙ ap (without_start is_lead) (sym past) ∙ c.leads.invariant

pub returns-in_default : goal.returns-in_default
returns-in_default c =
    let utf8 : IsUtf8 (chars_rest c.leads.left) = rw c.as_str-rest.ensures at c.as_str-rest.utf8 in
    let past : chars (chars_rest c.leads.left) ≡ c.in-Some.c ∷ chars (chars_rest c.next.new.self) =
    chars_past_char (chars_rest c.leads.left) (chars_rest c.next.new.self) c.in-Some.c utf8 c.in-Some.ensures.steps.0 in
    ap chars c.as_str-rest.ensures ∙ past
    ∙ sym (start-stays is_lead c.in-Some.c (chars (chars_rest c.next.new.self)) (sym c.is_lead.ensures ∙ c.if-is_lead.false))
    ∙ ap (without_start is_lead) (sym past) ∙ c.leads.invariant

pub returns-in_default-2 : goal.returns-in_default-2
returns-in_default-2 c =
    let none : chars (chars_rest c.leads.left) ≡ [] =
    ap chars (nil_from_length (chars_rest c.leads.left) c.in_default.ensures.steps.0.0) ∙ chars-nil in
    ap chars c.as_str-rest.ensures ∙ none ∙ ap (without_start is_lead) (sym none) ∙ c.leads.invariant
