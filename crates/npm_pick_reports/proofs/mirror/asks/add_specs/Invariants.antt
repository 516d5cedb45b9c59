-- The dependencies so far, and then those of the members that are left, are all dependencies.
use Rattle.std.proofs.Common.{◌≡◌, ◌++◌, map}
use Rattle.serde_json.specs.View.{members_view}
use Rattle.npm_pick_reports.specs.Asks.{ask_value, asks_among}
use Rattle.npm_pick_reports.proofs.mirror.asks.add_specs.Given as goal

abbrev pub invariant-loop-name : goal.invariant-loop-name
invariant-loop-name l = map ask_value l.asks.items ++ asks_among (members_view l.name-iterator)
    ≡ map ask_value l.initial.asks.items ++ asks_among (members_view l.initial.name-iterator)
