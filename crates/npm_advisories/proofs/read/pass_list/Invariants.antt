-- None of the advisories so far is in another form.
use Rattle.std.proofs.Common.{◌≡◌, drop}
use Rattle.serde_json.specs.View.{items_view}
use Rattle.npm_advisories.specs.Faults.{form_fault, list_fault}
use Rattle.npm_advisories.proofs.read.pass_list.Given as goal

abbrev pub invariant-loop-place : goal.invariant-loop-place
invariant-loop-place l = list_fault form_fault l.name 0 (items_view l.entries)
    ≡ list_fault form_fault l.name l.place (items_view (drop l.place l.entries))
