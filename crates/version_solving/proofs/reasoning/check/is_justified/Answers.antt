use Rattle.std.proofs.Common.{◌↔◌, ℕ, List, [], IsTrue, subst, sym}
use Rattle.version_solving.specs.Documents.{problem_of}
use Rattle.version_solving.specs.declared.reasoning.reason.Source.{Source}
use Rattle.version_solving.specs.declared.reasoning.reason.Term.{Term}
use Rattle.version_solving.specs.Reasons.{Follows, IsJustified}
use Rattle.version_solving.proofs.reasoning.check.is_justified.Goals as goal

pub returns-in-Lines : goal.returns-in-Lines
returns-in-Lines c =
    subst (λ (source : Source). IsTrue c.follows.result ↔ IsJustified (problem_of c.args.root.now c.args.documents.now) c.args.above.now source c.args.reason.now.terms.items)
    (sym c.in-Lines.is)
    (subst (λ (ts : List Term). IsTrue c.follows.result ↔ Follows (problem_of [] c.args.documents.now) c.args.above.now c.in-Lines.name c.in-Lines.lines.items ts)
    c.deref-in-Lines-2.ensures.value
    (subst (λ (xs : List ℕ). IsTrue c.follows.result ↔ Follows (problem_of [] c.args.documents.now) c.args.above.now c.in-Lines.name xs c.deref-in-Lines-2.result.now)
    c.deref-in-Lines.ensures.value c.follows.ensures))
