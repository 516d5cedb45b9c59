use Rattle.std.proofs.Common.{◌<◌, ℕ, [], Some}
use Rattle.version_solving.specs.Documents.{problem_of}
use Rattle.version_solving.specs.Private.Values.{IsGone}
use Rattle.version_solving.proofs.ruled.Ruled.excludes_backward.Given as goal

abbrev pub invariant-loop-value : goal.invariant-loop-value
invariant-loop-value l = (k : ℕ) → k < l.value → IsGone (problem_of [] l.documents) l.self.rows.items l.demands l.name (Some k)
