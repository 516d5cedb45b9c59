-- The ask names a package of a registry, or not.
use Rattle.std.proofs.Common.{◌≡◌, ◌∙◌, None, Some, ap, option_map, sym}
use Rattle.std.proofs.lemmas.Result.{on_ok_weaker}
use Rattle.npm_resolve.specs.Asks.{ask_value}
use Rattle.npm_texts.specs.RegistrySpec.{registry_spec, registry_spec_value}
use Rattle.npm_resolve.proofs.Gathering.{noted_added, unregistered_added}
use Rattle.npm_resolve.proofs.requests.Requests.add_ask.Goals as goal

pub returns-in-Some : goal.returns-in-Some
returns-in-Some c =
    let ask = ask_value c.args.ask in
    let found : registry_spec ask.name ask.spec ≡ Some (registry_spec_value c.in-Some.request) =
    sym c.registry_spec.ensures ∙ ap (option_map registry_spec_value) c.in-Some.is in
    on_ok_weaker c.add.result (noted_added ask (registry_spec_value c.in-Some.request) _ found _) c.add.ensures

pub returns-in-None : goal.returns-in-None
returns-in-None c =
    let ask = ask_value c.args.ask in
    let none : registry_spec ask.name ask.spec ≡ None = sym c.registry_spec.ensures ∙ ap (option_map registry_spec_value) c.in-None.is in
    unregistered_added ask _ none
