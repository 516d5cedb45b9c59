use Rattle.std.proofs.Common.{◌∙◌, ◌++◌, ap, refl}
use Rattle.std.proofs.lemmas.Result.{on_ok_weaker}
use Rattle.version_solving.specs.Documents.{problem_of}
use Rattle.version_solving.specs.declared.replay.Path.{Path}
use Rattle.version_solving.proofs.Replaying.{pushed}
use Rattle.version_solving.proofs.replay.Path.push.Goals as goal

pub returns-clause-path : goal.returns-clause-path
returns-clause-path c =
    let old : Path = c.args.self.now in
    let new : Path = record { choices = c.push.new.self; table = c.note.new.table; demands = c.extend_from_slice.new.self; from = old.from } in
    on_ok_weaker c.note.result (λ table. pushed (problem_of c.args.root.now c.args.documents.now) old c.requires.path new c.args.choice c.requires.next
    c.in_ok-push.ensures.items (c.in_ok-extend_from_slice.ensures.items ∙ ap (λ ds. old.demands.items ++ ds) c.demands-demands.ensures) refl table) c.note.ensures
