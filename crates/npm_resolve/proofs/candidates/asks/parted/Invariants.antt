-- Those so far, and then those that are left, are all of their kind.
use Rattle.std.proofs.Common.{◌≡◌, ◌++◌, drop, map, not}
use Rattle.std.specs.List.{filter}
use Rattle.npm_resolve.specs.Asks.{ask_value, is_registered}
use Rattle.npm_resolve.proofs.candidates.asks.parted.Given as goal

abbrev pub invariant-loop-ask : goal.invariant-loop-ask
invariant-loop-ask l = record {
  asks : map ask_value l.asks.items ++ filter is_registered (map ask_value (drop l.ask-index l.all))
      ≡ filter is_registered (map ask_value l.all);
  left_out : map ask_value l.left_out.items ++ filter (λ ask. not (is_registered ask)) (map ask_value (drop l.ask-index l.all))
      ≡ filter (λ ask. not (is_registered ask)) (map ask_value l.all);
}
