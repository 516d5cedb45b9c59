-- What is returned for an alias.
use Rattle.std.proofs.Common.{◌∙◌, ap, rules, sym}
use Rattle.npm_texts.specs.RangeText.{alias_value, target_range}
use Rattle.npm_texts.specs.RegistrySpec.{of_package}
use Rattle.npm_texts.proofs.Specs.RegistrySpecs.{no-name, of-alias}
use Rattle.npm_texts.proofs.registry.registry_spec.Goals as goal

pub returns-in_err-name_of_alias-in-Some : goal.returns-in_err-name_of_alias-in-Some
returns-in_err-name_of_alias-in-Some c =
    search (rules, no-name c.args.name.now c.args.spec.now c.in-Some.alias.now)

pub returns-in_ok-name_of_alias-in-Some : goal.returns-in_ok-name_of_alias-in-Some
returns-in_ok-name_of_alias-in-Some c =
    let whole = of-alias c.args.name.now c.args.spec.now c.in-Some.alias.now (search rules) in
    rw whole (search rules)
