use Rattle.std.proofs.Common.{◌<◌, ℕ, [], IfSome}
use Rattle.version_solving.specs.Documents.{problem_of}
use Rattle.version_solving.specs.Private.Paths.{IsAllowed, in_table}
use Rattle.version_solving.proofs.witness.is_fitting.Given as goal

abbrev pub invariant-loop-name : goal.invariant-loop-name
invariant-loop-name l = (k : ℕ) → k < l.name → IfSome (in_table l.table k) (IsAllowed (problem_of [] l.documents) (in_table l.table) k)
