use Rattle.std.proofs.Common.{◌≡◌, ◌<◌, ℕ, Some, true}
use Rattle.version_solving.specs.Private.Values.{is_out}
use Rattle.version_solving.proofs.replay.is_best.Given as goal

abbrev pub invariant-loop-candidate : goal.invariant-loop-candidate
invariant-loop-candidate l = (k : ℕ) → k < l.candidate → is_out l.ruled.rows.items l.choice.name (Some k) ≡ true
