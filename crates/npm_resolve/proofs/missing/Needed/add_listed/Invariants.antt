-- The names of those so far were added.
use Rattle.std.proofs.Common.{take}
use Rattle.std.specs.List.{list_any}
use Rattle.npm_resolve.specs.Missing.{is_needed_of}
use Rattle.npm_resolve.specs.Private.Needing.{AreNeeded}
use Rattle.npm_resolve.proofs.missing.Needed.add_listed.Given as goal

abbrev pub invariant-loop-one : goal.invariant-loop-one
invariant-loop-one l = AreNeeded (λ name. list_any (is_needed_of name) (take l.one-index l.listed)) l.initial.self l.self
