-- The spec asks no registry, or for the package of the name, or for another.
use Rattle.std.proofs.Common.{◌≡◌, ◌∙◌, Some, ap, option_map, refl, sym}
use Rattle.std.proofs.lemmas.Result.{IfOk-weaker}
use Rattle.npm_resolve.specs.Meanings.{nothing}
use Rattle.npm_texts.specs.RegistrySpec.{registry_spec, registry_spec_value}
use Rattle.npm_resolve.specs.Instance.{by_text, of_another, of_none}
use Rattle.npm_resolve.proofs.instance.meaning_for.Goals as goal

pub returns-in_default : goal.returns-in_default
returns-in_default c = (nothing, of_none (sym c.registry_spec.ensures ∙ ap (option_map registry_spec_value) c.in_default.is), refl)

pub returns-then-is_for : goal.returns-then-is_for
returns-then-is_for c =
    let request = registry_spec_value c.in-Some.request in
    let found : registry_spec c.args.offer.now.name.now c.args.spec.now ≡ Some request =
    sym c.registry_spec.ensures ∙ ap (option_map registry_spec_value) c.in-Some.is in
    IfOk-weaker c.meaning_of.result _ _
    (λ meaning read. (read.0, by_text request read.0 found (sym c.is_for.ensures ∙ c.if-is_for.true) read.1, read.2))
    c.meaning_of.ensures

pub returns-else-is_for : goal.returns-else-is_for
returns-else-is_for c =
    let request = registry_spec_value c.in-Some.request in
    let found : registry_spec c.args.offer.now.name.now c.args.spec.now ≡ Some request =
    sym c.registry_spec.ensures ∙ ap (option_map registry_spec_value) c.in-Some.is in
    (nothing, of_another request found (sym c.is_for.ensures ∙ c.if-is_for.false), refl)
