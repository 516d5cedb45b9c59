-- An entry names any system if one of those that are left does.
use Rattle.std.proofs.Common.{◌≡◌, drop}
use Rattle.serde_json.specs.View.{items_view}
use Rattle.npm_resolve_reports.specs.Systems.{is_plain, some_item}
use Rattle.npm_resolve_reports.proofs.platform.some_is_plain.Given as goal

abbrev pub invariant-loop-entry : goal.invariant-loop-entry
invariant-loop-entry l = some_item is_plain (items_view (drop l.entry-index l.entries))
    ≡ some_item is_plain (items_view l.entries)
