-- The items that are left have the name if all have it.
use Rattle.std.proofs.Common.{◌≡◌, drop}
use Rattle.serde_json.specs.View.{items_view}
use Rattle.npm_overrides.specs.Bundled.{has_name}
use Rattle.npm_overrides.proofs.bundled.has_name.Given as goal

abbrev pub invariant-loop-one : goal.invariant-loop-one
invariant-loop-one l = has_name l.name (items_view (drop l.one-index l.names)) ≡ has_name l.name (items_view l.names)
