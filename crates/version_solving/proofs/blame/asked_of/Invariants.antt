use Rattle.std.proofs.Common.{All, Contains}
use Rattle.version_solving.proofs.blame.asked_of.Given as goal

abbrev pub invariant-loop-place : goal.invariant-loop-place
invariant-loop-place l = All (Contains l.root) l.demands.items
