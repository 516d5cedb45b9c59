use Rattle.std.proofs.Common.{◌≡◌, ℕ, Some, false, get_or, length}
use Rattle.version_solving.specs.Documents.{problem_of}
use Rattle.version_solving.specs.Solving.{Fits, Selection}
use Rattle.version_solving.specs.Private.Values.{Spares, name_of}
use Rattle.version_solving.proofs.ruled.Ruled.row_after.Given as goal

abbrev pub invariant-loop-candidate : goal.invariant-loop-candidate
invariant-loop-candidate l = record {
  count : length l.candidates.items ≡ l.candidate;
  excluded : (s : Selection) → Fits (problem_of l.root l.documents) s → Spares l.self.rows.items s → (c : ℕ) → s (name_of l.root l.step) ≡ Some c
      → get_or l.candidates.items c false ≡ false;
}
