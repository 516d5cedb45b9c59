-- The first of the asks that are left is the first of all.
use Rattle.std.proofs.Common.{◌≡◌, drop, map}
use Rattle.serde_json.specs.View.{view}
use Rattle.npm_overrides.specs.Asks.{ask_value, first_changed}
use Rattle.npm_overrides.proofs.asks.changed_of_root.Given as goal

abbrev pub invariant-loop-ask : goal.invariant-loop-ask
invariant-loop-ask l = first_changed (view l.manifest) (map ask_value (drop l.ask-index l.asks))
    ≡ first_changed (view l.manifest) (map ask_value l.asks)
