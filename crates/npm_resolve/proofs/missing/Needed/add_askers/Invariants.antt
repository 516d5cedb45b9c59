-- The names of those so far were added.
use Rattle.std.proofs.Common.{take}
use Rattle.std.specs.List.{list_any}
use Rattle.npm_resolve.specs.Missing.{is_needed_in}
use Rattle.npm_resolve.specs.Private.Needing.{AreNeeded}
use Rattle.npm_resolve.proofs.missing.Needed.add_askers.Given as goal

abbrev pub invariant-loop-asker : goal.invariant-loop-asker
invariant-loop-asker l = AreNeeded (λ name. list_any (is_needed_in name) (take l.asker-index l.askers)) l.initial.self l.self
