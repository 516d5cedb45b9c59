use Rattle.version_solving.specs.Documents.{problem_of}
use Rattle.version_solving.proofs.Sound.{proof_sound}
use Rattle.version_solving.proofs.reasoning.check.is_proof.Goals as goal

pub returns-then-is_last_empty-clause-sound : goal.returns-then-is_last_empty-clause-sound
returns-then-is_last_empty-clause-sound c =
    λ yes. proof_sound (problem_of c.args.root.now c.args.documents.now) c.args.lines.now
    (record { each = c.are_justified.ensures.0 yes; last = c.is_last_empty.ensures.0 c.if-is_last_empty.true })
