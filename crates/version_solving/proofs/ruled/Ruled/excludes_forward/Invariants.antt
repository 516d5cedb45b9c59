use Rattle.std.proofs.Common.{◌<◌, ℕ}
use Rattle.version_solving.specs.Documents.{problem_of}
use Rattle.std.proofs.Common.{[]}
use Rattle.version_solving.specs.Private.Values.{IsSilent}
use Rattle.version_solving.proofs.ruled.Ruled.excludes_forward.Given as goal

abbrev pub invariant-loop-candidate : goal.invariant-loop-candidate
invariant-loop-candidate l = (k : ℕ) → k < l.candidate → IsSilent (problem_of [] l.documents) l.self.rows.items l.asker k l.name l.value
