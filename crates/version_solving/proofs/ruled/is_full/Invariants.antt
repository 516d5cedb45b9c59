use Rattle.std.proofs.Common.{◌≡◌, ◌<◌, ℕ, Some, true}
use Rattle.version_solving.specs.Private.Values.{has}
use Rattle.version_solving.proofs.ruled.is_full.Given as goal

abbrev pub invariant-loop-candidate : goal.invariant-loop-candidate
invariant-loop-candidate l = (k : ℕ) → k < l.candidate → has l.set (Some k) ≡ true
