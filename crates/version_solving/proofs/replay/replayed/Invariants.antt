use Rattle.version_solving.specs.Documents.{problem_of}
use Rattle.version_solving.specs.Private.Paths.{AreRuled, IsPath, made}
use Rattle.version_solving.proofs.replay.replayed.Given as goal

abbrev pub invariant-loop-one : goal.invariant-loop-one
invariant-loop-one l = record {
  path : IsPath (problem_of l.root l.documents) l.path;
  ruled : AreRuled (problem_of l.root l.documents) (made l.path) l.ruled.rows.items;
}
