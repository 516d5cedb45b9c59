-- One element more is read, or is at fault.
use Rattle.std.proofs.Common.{◌++◌, ◌∷◌, [], List, refl, rules}
use Rattle.std.specs.Option.{option_map_or}
use Rattle.serde_json.specs.Data.{Data}
use Rattle.serde_json.specs.View.{view}
use Rattle.npm_advisories.specs.Advisories.{AboutValue, AdvisoryValue, about_value}
use Rattle.npm_advisories.specs.OsvFaults.{affected_fault}
use Rattle.npm_advisories.specs.OsvForm.{affected_list, npm_name, osv_affected}
use Rattle.npm_advisories.specs.Private.VersionTest.{is_version}
use Rattle.npm_advisories.specs.Index.{has_name}
use Rattle.npm_advisories.specs.Lemmas.Adding.{adds-both}
use Rattle.npm_advisories.specs.Lemmas.Items.{fault-found, fault-passed, read-passed}
use Rattle.npm_advisories.proofs.osv.add_affected.Goals as goal

abbrev part : AboutValue → Data → List AdvisoryValue
part about one =
    option_map_or (λ name. record { name = name; about = about; affected = osv_affected one } ∷ []) (npm_name one) []

pub loop-one-preserved : goal.loop-one-preserved
loop-one-preserved c =
    let about = about_value c.args.about in
    let value = part about (view c.one-item.result) in
    record {
      front = c.loop-one.invariant.front ++ value;
      adds = adds-both (has_name c.args.names.now) _ _ _ c.loop-one.invariant.front value c.loop-one.invariant.adds c.in_ok-add_one.ensures.read;
      rest = read-passed c.args.affected.now c.loop-one.one-index c.one-item.result c.loop-one-test.true c.one-item.is
          (affected_list about) (part about) (λ d others. refl) _ c.loop-one.invariant.front c.loop-one.invariant.rest;
      fault = fault-passed c.args.affected.now c.loop-one.one-index c.one-item.result c.loop-one-test.true c.one-item.is
          (affected_fault is_version (has_name c.args.names.now)) _ c.in_ok-add_one.ensures.sound c.loop-one.invariant.fault;
    }

pub returns-in_err-add_one-clause-refused : goal.returns-in_err-add_one-clause-refused
returns-in_err-add_one-clause-refused c =
    let fault = fault-found c.args.affected.now c.loop-one.one-index c.one-item.result c.loop-one-test.true
    c.one-item.is
    (affected_fault is_version (has_name c.args.names.now)) _ c.in_err-add_one.field-0.0 c.in_err-add_one.ensures.refused c.loop-one.invariant.fault
    in
    search (rules, fault)
