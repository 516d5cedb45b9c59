use Rattle.std.proofs.Common.{◌≡◌, ◌<◌, ◌↔◌, ℕ, false, true, length, get_or}
use Rattle.std.specs.Prelude.{[]}
use Rattle.version_solving.specs.Documents.{problem_of}
use Rattle.version_solving.proofs.change.outside_of.Given as goal

abbrev pub invariant-loop-candidate : goal.invariant-loop-candidate
invariant-loop-candidate l = record {
  count : length l.allowed.items ≡ l.candidate;
  each : (k : ℕ) → k < l.candidate → get_or l.allowed.items k false ≡ true ↔ (problem_of [] l.documents).allows l.demand.range k ≡ false;
}
