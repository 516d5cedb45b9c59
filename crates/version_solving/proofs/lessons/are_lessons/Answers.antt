-- One lesson more follows from those above it.
use Rattle.std.proofs.Common.{All, subst}
use Rattle.std.proofs.lemmas.List.{take_all}
use Rattle.std.proofs.lemmas.List.Elements.{All-more}
use Rattle.version_solving.specs.Documents.{problem_of}
use Rattle.version_solving.specs.declared.certificate.Lesson.{Lesson}
use Rattle.version_solving.specs.Private.Values.{AreForbidden}
use Rattle.version_solving.proofs.lessons.are_lessons.Goals as goal

pub loop-place-preserved : goal.loop-place-preserved
loop-place-preserved c =
    let p = problem_of c.args.root.now c.args.documents.now in
    All-more (λ (lesson : Lesson). AreForbidden p lesson.terms.items) c.args.lessons.now c.loop-place.place c.index-lessons-place.result
    c.loop-place-test.true c.loop-place.invariant
    (subst (λ (lesson : Lesson). AreForbidden p lesson.terms.items) c.index-lessons-place.is (c.in_ok-is_lesson.ensures c.if-not-branch.false))

pub returns : goal.returns
returns c = λ yes. subst (All (λ (lesson : Lesson). AreForbidden (problem_of c.args.root.now c.args.documents.now) lesson.terms.items))
    (take_all c.loop-place.place c.args.lessons.now c.loop-place-test.false) c.loop-place.invariant
