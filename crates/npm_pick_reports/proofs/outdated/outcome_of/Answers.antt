-- The dependency is left out, or asked of no registry, or its package has no document, or one.
use Rattle.std.proofs.Common.{◌≡◌, ◌∙◌, Err, None, Ok, Some, ap, option_map, refl, sym}
use Rattle.std.proofs.lemmas.Fn.{says_at}
use Rattle.std.specs.Fn.{FnReturnsAt}
use Rattle.npm_packages.specs.Edges.{edge_value}
use Rattle.npm_texts.specs.RegistrySpec.{registry_spec, registry_spec_value}
use Rattle.npm_pick_reports.specs.Outdated.{IsNeededFor, elsewhere, left_out, unknown}
use Rattle.npm_pick_reports.proofs.Outcomes.{known_found}
use Rattle.npm_pick_reports.proofs.outdated.outcome_of.Goals as goal

pub returns-then-is_passed-clause-found : goal.returns-then-is_passed-clause-found
returns-then-is_passed-clause-found g c = left_out (sym c.is_passed.ensures ∙ c.if-is_passed.true)

pub returns-in_default-clause-found : goal.returns-in_default-clause-found
returns-in_default-clause-found g c = elsewhere (sym c.is_passed.ensures ∙ c.if-is_passed.false)
    (sym c.registry_spec.ensures ∙ ap (option_map registry_spec_value) c.in_default.is)

pub returns-in-Ok-Some-clause-found : goal.returns-in-Ok-Some-clause-found
returns-in-Ok-Some-clause-found g c =
    let asked : registry_spec c.args.edge.name.now c.args.edge.spec.now ≡ Some (registry_spec_value c.in-Some.request) =
    sym c.registry_spec.ensures ∙ ap (option_map registry_spec_value) c.in-Some.is in
    let gives : FnReturnsAt g.F.Fn c.args.load.now c.in-Some.request.name.now (Ok (Some c.in-Ok-Some.packument)) =
    says_at g.F.Fn c.load.ensures (c.in-Ok-Some.is ∙ ap Ok c.in-Ok-Some.field-0-is) in
    known_found (FnReturnsAt g.F.Fn c.args.load.now) c.args.all c.args.options.now (edge_value c.args.edge)
    (registry_spec_value c.in-Some.request) c.in-Ok-Some.packument c.outcome_by_document.result
    (sym c.is_passed.ensures ∙ c.if-is_passed.false) asked gives c.outcome_by_document.ensures.found

pub returns-in-Ok-None-clause-found : goal.returns-in-Ok-None-clause-found
returns-in-Ok-None-clause-found g c =
    let asked : registry_spec c.args.edge.name.now c.args.edge.spec.now ≡ Some (registry_spec_value c.in-Some.request) =
    sym c.registry_spec.ensures ∙ ap (option_map registry_spec_value) c.in-Some.is in
    let gives : FnReturnsAt g.F.Fn c.args.load.now c.in-Some.request.name.now (Ok None) =
    says_at g.F.Fn c.load.ensures (c.in-Ok-None.is ∙ ap Ok c.in-Ok-None.field-0-is) in
    unknown (registry_spec_value c.in-Some.request) (sym c.is_passed.ensures ∙ c.if-is_passed.false) asked gives

pub returns-in-Err-clause-failed : goal.returns-in-Err-clause-failed
returns-in-Err-clause-failed g c =
    let asked : registry_spec c.args.edge.name.now c.args.edge.spec.now ≡ Some (registry_spec_value c.in-Some.request) =
    sym c.registry_spec.ensures ∙ ap (option_map registry_spec_value) c.in-Some.is in
    let gives : FnReturnsAt g.F.Fn c.args.load.now c.in-Some.request.name.now (Err c.in-Err.error) =
    says_at g.F.Fn c.load.ensures c.in-Err.is in
    let needed : IsNeededFor c.args.all (edge_value c.args.edge) c.in-Some.request.name.now =
    (registry_spec_value c.in-Some.request, sym c.is_passed.ensures ∙ c.if-is_passed.false, asked, refl) in
    (c.in-Some.request.name.now, needed, gives)
