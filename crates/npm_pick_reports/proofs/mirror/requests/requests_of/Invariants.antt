-- The requests so far are those of the dependencies so far.
use Rattle.std.proofs.Common.{◌≡◌, map, take}
use Rattle.npm_texts.specs.RegistrySpec.{registry_spec_value}
use Rattle.npm_pick_reports.specs.Asks.{ask_value}
use Rattle.npm_pick_reports.specs.Mirror.{requests_of}
use Rattle.npm_pick_reports.proofs.mirror.requests.requests_of.Given as goal

abbrev pub invariant-loop-ask : goal.invariant-loop-ask
invariant-loop-ask l = map registry_spec_value l.requests.items
    ≡ requests_of (map ask_value (take l.ask-index l.asks))
