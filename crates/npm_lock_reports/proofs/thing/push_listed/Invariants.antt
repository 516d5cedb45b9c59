-- A thing for each item so far.
use Rattle.std.proofs.Common.{◌≡◌, ◌+◌, length}
use Rattle.npm_lock_reports.proofs.thing.push_listed.Given as goal

abbrev pub invariant-loop-unchecked : goal.invariant-loop-unchecked
invariant-loop-unchecked l = length l.things.items ≡ length l.initial.things.items + l.unchecked-index

abbrev pub invariant-loop-unread : goal.invariant-loop-unread
invariant-loop-unread l = length l.things.items ≡ length l.initial.things.items + l.unread-index
