use Rattle.std.proofs.Common.{◌≡◌, false, get_or, length}
use Rattle.version_solving.proofs.ruled.Ruled.keep.Given as goal

abbrev pub invariant-loop-candidate : goal.invariant-loop-candidate
invariant-loop-candidate l = record {
  count : length l.candidates.items ≡ l.candidate;
  kept : get_or l.candidates.items l.choice.candidate false ≡ false;
}
