-- What is kept of one package more.
use Rattle.std.proofs.Common.{◌∙◌, ap, map, string_bytes, subst, sym}
use Rattle.std.proofs.lemmas.List.{take_all}
use Rattle.std.specs.Fn.{FnReturnsAt}
use Rattle.npm_texts.specs.RegistrySpec.{registry_spec_value}
use Rattle.npm_pick.specs.Lemmas.Gathering.{seen_there}
use Rattle.npm_pick_reports.specs.Mirror.{IsNeededFor, package_value}
use Rattle.npm_pick_reports.proofs.Mirrors.{is_package, name_more, needed_too, package_more, passed_on}
use Rattle.npm_pick_reports.proofs.mirror.mirror_of.Goals as goal

pub loop-name-preserved : goal.loop-name-preserved
loop-name-preserved g c =
    let name = string_bytes c.name-item.result in
    let requests = map registry_spec_value c.args.requests.now in
    let installed = map registry_spec_value c.args.installed.now in
    let one = c.in_ok-one.one in
    let same = c.in_ok-one.ensures.name ∙ c.as_str-name.ensures.value in
    let found = rw (c.deref.ensures.value, c.deref-in-loop-name.ensures.value, c.as_str-name.ensures.value)
    at c.in_ok-one.ensures.found in
    record {
      named = name_more c.deref-name-items.result.now c.loop-name.name-index c.name-item.result _ _ one
          c.loop-name-test.true c.name-item.is c.in_ok-add_package.ensures same c.loop-name.invariant.named;
      kept = package_more (FnReturnsAt g.F.Fn c.args.load) c.args.options.now c.args.all requests installed _ _ one
          c.in_ok-add_package.ensures
          (is_package (FnReturnsAt g.F.Fn c.args.load) c.args.options.now c.args.all requests installed
          (package_value one) name _ _ _ _ same
          (c.in_ok-asked.ensures name) (rw c.as_str-name.ensures.value at c.in_ok-texts.ensures)
          (c.in_ok-found.ensures name) (rw c.as_str-name.ensures.value at c.in_ok-versions.ensures) found)
          c.loop-name.invariant.kept;
    }

pub returns-clause-mirror : goal.returns-clause-mirror
returns-clause-mirror g c =
    let named = c.loop-name.invariant.named ∙ ap (map string_bytes)
    (take_all c.loop-name.name-index c.deref-name-items.result.now c.loop-name-test.false ∙ c.deref-name-items.ensures.value) in
    record {
      ordered = rw named c.in_ok-names.ensures.ordered;
      exact = rw named c.in_ok-names.ensures.exact;
      kept = c.loop-name.invariant.kept;
    }

pub returns-in_err-one-clause-failed : goal.returns-in_err-one-clause-failed
returns-in_err-one-clause-failed g c =
    let requests = map registry_spec_value c.args.requests.now in
    let installed = map registry_spec_value c.args.installed.now in
    let there = rw c.deref-name-items.ensures.value at (rw (← c.name-item.is)
    at (seen_there string_bytes c.deref-name-items.result.now c.loop-name.name-index c.name-item.result c.loop-name-test.true)) in
    let needed = (c.in_ok-names.ensures.exact (string_bytes c.name-item.result)).0 there in
    let told = needed_too (FnReturnsAt g.F.Fn c.args.load) _ (IsNeededFor requests installed) c.in_err-one.field-0.0
    (λ name is. subst (IsNeededFor requests installed) (sym (is ∙ c.as_str-name.ensures.value)) needed)
    c.in_err-one.ensures.failed in
    passed_on c.from_residual-in_err-one.result _ _ c.from_residual-in_err-one.ensures.1 (λ error same. rw same told)
