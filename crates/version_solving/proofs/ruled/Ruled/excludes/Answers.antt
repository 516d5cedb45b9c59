-- A lesson rules out a value that all its terms of the name have.
use Rattle.std.proofs.Common.{◌≡◌, [], All, IfSome, Option, Some, ap, length, refl, slice_get, subst, sym, true}
use Rattle.std.proofs.lemmas.List.Elements.{All-get_or}
use Rattle.std.proofs.lemmas.Option.{get_or_from_slice_get, slice_get_read, slice_get_within}
use Rattle.version_solving.specs.Documents.{problem_of}
use Rattle.version_solving.specs.declared.certificate.Lesson.{Lesson}
use Rattle.version_solving.specs.declared.certificate.Term.{Term}
use Rattle.version_solving.specs.Private.Values.{AreForbidden, AreOthersMet, IsExcluded, IsReady, has, name_of}
use Rattle.version_solving.proofs.Ruling.{fits_any, learnt}
use Rattle.version_solving.proofs.ruled.Ruled.excludes.Goals as goal

pub returns-in-Some-get : goal.returns-in-Some-get
returns-in-Some-get c = λ yes.
    let p = problem_of c.args.root.now c.args.documents.now in
    let q = problem_of [] c.args.documents.now in
    let rows = c.args.self.now.rows.items in
    let lesson : Lesson = c.in-Some-get.lesson.now in
    let there : slice_get c.args.lessons.now c.in-Learnt.number ≡ Some lesson =
    slice_get_read c.args.lessons.now (length c.args.lessons.now) c.in-Learnt.number lesson refl
    c.in-Some-get.ensures.lookup.3.0 c.in-Some-get.ensures.lookup.1 in
    let forbidden : AreForbidden p lesson.terms.items =
    subst (λ (l : Lesson). AreForbidden p l.terms.items) (get_or_from_slice_get c.args.lessons.now c.in-Learnt.number lesson lesson there)
    (All-get_or (λ (l : Lesson). AreForbidden p l.terms.items) c.args.lessons.now c.in-Learnt.number lesson
    (slice_get_within c.args.lessons.now c.in-Learnt.number lesson there) c.requires.lessons) in
    let others : AreOthersMet q rows c.in-Learnt.name lesson.terms.items =
    subst (λ (o : Option Lesson). IfSome o (λ l. AreOthersMet q rows c.in-Learnt.name l.terms.items)) there
    (subst (IsReady q rows c.args.lessons.now) c.in-Learnt.is c.requires.ready) in
    let own : All (λ (t : Term). t.name ≡ c.in-Learnt.name → has t.values c.args.value ≡ true) lesson.terms.items =
    subst (All (λ (t : Term). t.name ≡ c.in-Learnt.name → has t.values c.args.value ≡ true)) c.deref.ensures.value (c.have_value.ensures yes) in
    subst (λ n. IsExcluded p rows n c.args.value) (sym (ap (name_of c.args.root.now) c.in-Learnt.is))
    (learnt p q rows lesson.terms.items c.in-Learnt.name c.args.value (fits_any c.args.root.now c.args.documents.now) forbidden others own)
