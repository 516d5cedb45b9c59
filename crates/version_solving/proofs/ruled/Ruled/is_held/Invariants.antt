use Rattle.std.proofs.Common.{◌<◌, ℕ, Some}
use Rattle.version_solving.specs.Private.Values.{IsHeld}
use Rattle.version_solving.proofs.ruled.Ruled.is_held.Given as goal

abbrev pub invariant-loop-candidate : goal.invariant-loop-candidate
invariant-loop-candidate l = (k : ℕ) → k < l.candidate → IsHeld l.self.rows.items l.term (Some k)
