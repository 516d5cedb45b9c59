use Rattle.std.proofs.Common.{◌≡◌, map, not, take}
use Rattle.version_solving.proofs.ruled.Ruled.suppose.Given as goal

abbrev pub invariant-loop-is_there : goal.invariant-loop-is_there
invariant-loop-is_there l = l.candidates.items ≡ map not (take l.is_there-index l.term.values.candidates.items)
