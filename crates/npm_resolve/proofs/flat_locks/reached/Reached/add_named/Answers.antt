-- A package is installed under the name, or none is.
use Rattle.std.proofs.Common.{◌≡◌, ◌∙◌, None, Some, ap, map, option_map, sym}
use Rattle.std.proofs.lemmas.Result.{on_ok_weaker}
use Rattle.npm_resolve.specs.Installed.{found, installed_value}
use Rattle.npm_resolve.proofs.Reaching.{added_of_none, added_of_one}
use Rattle.npm_resolve.proofs.flat_locks.reached.Reached.add_named.Goals as goal

pub returns-in-Some : goal.returns-in-Some
returns-in-Some c =
    let installed = map installed_value c.args.installed.now in
    let there : found installed c.args.name.now ≡ Some (installed_value c.in-Some.asker) =
    sym c.found.ensures ∙ ap (option_map installed_value) c.in-Some.is in
    on_ok_weaker c.add_dependencies.result (added_of_one installed c.args.groups c.args.name.now (installed_value c.in-Some.asker) _ _ there)
    c.add_dependencies.ensures

pub returns-in-None : goal.returns-in-None
returns-in-None c =
    let installed = map installed_value c.args.installed.now in
    let none : found installed c.args.name.now ≡ None = sym c.found.ensures ∙ ap (option_map installed_value) c.in-None.is in
    added_of_none installed c.args.groups c.args.name.now _ none
