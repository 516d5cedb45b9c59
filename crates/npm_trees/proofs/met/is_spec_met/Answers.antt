-- The spec is this request, and its text decides.
use Rattle.std.proofs.Common.{◌∙◌, ap, option_map, sym}
use Rattle.std.proofs.lemmas.Result.{IfOk-weaker}
use Rattle.npm_texts.specs.RegistrySpec.{registry_spec_value}
use Rattle.npm_trees.proofs.Meeting.{spec_is}
use Rattle.npm_trees.proofs.met.is_spec_met.Goals as goal

pub returns-in-Some : goal.returns-in-Some
returns-in-Some c =
    let both = spec_is c.args.places.now c.args.ask.now c.args.place.now (registry_spec_value c.in-Some.request)
    (sym c.registry_spec.ensures ∙ ap (option_map registry_spec_value) c.in-Some.is) _ _ c.version_of-version.ensures c.is_package.ensures in
    IfOk-weaker c.is_text_met.result _ _ (λ is told. ((λ yes. both.0 (told.0 yes)), (λ met. told.1 (both.1 met)))) c.is_text_met.ensures
