-- An entry names the system if one of those that are left does.
use Rattle.std.proofs.Common.{◌≡◌, drop}
use Rattle.serde_json.specs.View.{items_view}
use Rattle.npm_resolve_reports.specs.Systems.{names, some_item}
use Rattle.npm_resolve_reports.proofs.platform.some_names.Given as goal

abbrev pub invariant-loop-entry : goal.invariant-loop-entry
invariant-loop-entry l = some_item (names l.system) (items_view (drop l.entry-index l.entries))
    ≡ some_item (names l.system) (items_view l.entries)
