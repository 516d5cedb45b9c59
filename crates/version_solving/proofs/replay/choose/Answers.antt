-- No better candidate fits, since each is ruled out.
use Rattle.std.proofs.Common.{◌≡◌, ◌∙◌, ◌∷◌, List, Some, ap, reverse, subst, sym}
use Rattle.version_solving.specs.Documents.{problem_of}
use Rattle.version_solving.specs.Solving.{next_name}
use Rattle.version_solving.specs.declared.outcome.Choice.{Choice}
use Rattle.version_solving.specs.Private.Paths.{AreRuled, IsNext, made}
use Rattle.version_solving.proofs.Replaying.{better_fails, made_more, ruled_more}
use Rattle.version_solving.proofs.replay.choose.Goals as goal

pub push-requires-clause-next : goal.push-requires-clause-next
push-requires-clause-next c =
    let p = problem_of c.args.root.now c.args.documents.now in
    let next : next_name p (made c.args.path.now) ≡ Some c.args.choice.name =
    sym c.next.ensures.name ∙ (c.in-Some.is ∙ ap Some c.if-next-choice.false) in
    subst (λ cs. IsNext p cs c.args.choice) (sym (ap (λ (cs : List Choice). reverse cs) c.next.ensures.choices)) (record {
      name = next;
      there = c.is_best.ensures.there c.if-not-is_best.false;
      first = λ better small. better_fails p (made c.args.path.now) c.args.ruled.now.rows.items c.requires.ruled c.args.choice.name next better
          (c.is_best.ensures.first c.if-not-is_best.false better small);
    })

pub returns-clause-ruled : goal.returns-clause-ruled
returns-clause-ruled c =
    let p = problem_of c.args.root.now c.args.documents.now in
    let next : next_name p (made c.args.path.now) ≡ Some c.args.choice.name =
    sym c.next.ensures.name ∙ (c.in-Some.is ∙ ap Some c.if-next-choice.false) in
    let more : made c.push.new.self ≡ c.args.choice ∷ made c.args.path.now =
    made_more p c.next.new.self c.next.ensures.path c.push.new.self c.args.choice c.in_ok-push.ensures.choices
    ∙ ap (λ (cs : List Choice). c.args.choice ∷ reverse cs) c.next.ensures.choices in
    λ yes. subst (λ cs. AreRuled p cs c.keep.new.self.rows.items) (sym more)
    (ruled_more p (made c.args.path.now) c.args.ruled.now.rows.items c.requires.ruled c.args.choice.name next c.args.choice.candidate
    c.keep.new.self.rows.items c.in_ok-keep.ensures)
