-- The bytes that are left decide.
use Rattle.std.proofs.Common.{◌≡◌, drop, true}
use Rattle.npm_lock.specs.Private.PatternSteps as PatternSteps
use Rattle.npm_lock.proofs.pattern.has_dot_part.Given as goal

abbrev pub invariant-loop-byte : goal.invariant-loop-byte
invariant-loop-byte l = PatternSteps.has_dot_part true l.path ≡ PatternSteps.has_dot_part l.is_start (drop l.byte-index l.path)
