use Rattle.std.proofs.Common.{take}
use Rattle.version_solving.specs.Documents.{problem_of}
use Rattle.version_solving.specs.Private.Values.{AreLessons}
use Rattle.version_solving.proofs.lessons.are_lessons.Given as goal

abbrev pub invariant-loop-place : goal.invariant-loop-place
invariant-loop-place l = AreLessons (problem_of l.root l.documents) (take l.place l.lessons)
