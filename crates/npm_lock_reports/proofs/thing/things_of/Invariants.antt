-- A thing for each item so far.
use Rattle.std.proofs.Common.{◌≡◌, ◌+◌, length}
use Rattle.npm_lock_reports.proofs.thing.things_of.Given as goal

abbrev pub invariant-loop-mismatch : goal.invariant-loop-mismatch
invariant-loop-mismatch l = length l.things.items ≡ length l.initial.things.items + l.mismatch-index

abbrev pub invariant-loop-problem : goal.invariant-loop-problem
invariant-loop-problem l = length l.things.items ≡ length l.initial.things.items + l.problem-index

abbrev pub invariant-loop-one : goal.invariant-loop-one
invariant-loop-one l = length l.things.items ≡ length l.initial.things.items + l.one-index

abbrev pub invariant-loop-source : goal.invariant-loop-source
invariant-loop-source l = length l.things.items ≡ length l.initial.things.items + l.source-index

abbrev pub invariant-loop-dependency : goal.invariant-loop-dependency
invariant-loop-dependency l = length l.things.items ≡ length l.initial.things.items + l.dependency-index
