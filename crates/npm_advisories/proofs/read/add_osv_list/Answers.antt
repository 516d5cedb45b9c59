-- One object more is read, or is at fault.
use Rattle.std.proofs.Common.{◌++◌, refl, rules}
use Rattle.serde_json.specs.View.{view}
use Rattle.npm_advisories.specs.OsvForm.{osv_advisories, osv_list}
use Rattle.npm_advisories.specs.Index.{has_name}
use Rattle.npm_advisories.specs.Lemmas.Adding.{adds-both}
use Rattle.npm_advisories.specs.Lemmas.Items.{read-passed}
use Rattle.npm_advisories.proofs.Reading.{osv-found, osv-passed}
use Rattle.npm_advisories.proofs.read.add_osv_list.Goals as goal

pub loop-place-preserved : goal.loop-place-preserved
loop-place-preserved c =
    let value = osv_advisories c.args.today (view c.index-entries-place.result) in
    record {
      front = c.loop-place.invariant.front ++ value;
      adds = adds-both (has_name c.args.names.now) _ _ _ c.loop-place.invariant.front value c.loop-place.invariant.adds
          c.in_ok-add_osv_at.ensures.read;
      rest = read-passed c.args.entries.now c.loop-place.place c.index-entries-place.result c.loop-place-test.true
          c.index-entries-place.is (osv_list c.args.today) (osv_advisories c.args.today) (λ d others. refl) _ c.loop-place.invariant.front
          c.loop-place.invariant.rest;
      fault = osv-passed c.args.today c.args.entries.now c.loop-place.place c.index-entries-place.result c.loop-place-test.true
          c.index-entries-place.is (has_name c.args.names.now) _ c.in_ok-add_osv_at.ensures.sound c.loop-place.invariant.fault;
    }

pub returns-in_err-add_osv_at-clause-refused : goal.returns-in_err-add_osv_at-clause-refused
returns-in_err-add_osv_at-clause-refused c =
    let fault = osv-found c.args.today c.args.entries.now c.loop-place.place c.index-entries-place.result c.loop-place-test.true
    c.index-entries-place.is (has_name c.args.names.now) _ c.in_err-add_osv_at.field-0.0 c.in_err-add_osv_at.ensures.refused
    c.loop-place.invariant.fault in
    search (rules, fault)
