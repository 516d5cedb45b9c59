use Rattle.std.proofs.Common.{◌≡◌, ◌++◌, ◌∙◌, [], Bool, IfSome, List, Option, false, reverse, subst, sym, take, true}
use Rattle.version_solving.specs.Culprits.{CanBeMet}
use Rattle.version_solving.specs.Documents.{problem_of}
use Rattle.version_solving.specs.Private.Missed.{AreMissed}
use Rattle.version_solving.specs.Solving.{NoneFits}
use Rattle.version_solving.specs.declared.demand.Demand.{Demand}
use Rattle.version_solving.proofs.Missed.{kept_too, left_out, none_can}
use Rattle.version_solving.proofs.blame.keep_if_missed.Goals as goal

abbrev any : Demand
any = record { name = 0; range = 0; needed = false }

pub returns-in-Some-true : goal.returns-in-Some-true
returns-in-Some-true c =
    let p = problem_of c.args.root.now c.args.documents.now in
    let asked : List Demand = c.deref-2.result.now in
    let others : List Demand = take c.args.at c.args.root.now ++ reverse c.args.kept.now.items in
    let given : asked ≡ others = c.deref-2.ensures.value ∙ rw c.deref.ensures.value at c.in_ok-others.ensures in
    let can : CanBeMet p asked = subst (λ (o : Option Bool). IfSome o (λ is. is ≡ true → CanBeMet p asked))
    c.in-Some-true.is c.in_ok-can_be_met.ensures.met c.in-Some-true.field-0-test in
    record {
      missed = λ is. subst (AreMissed p c.args.at) (sym c.in_ok-push-in-Some-true.ensures.items)
          (kept_too p c.args.at any c.requires.at c.args.kept.now.items c.requires.missed (subst (CanBeMet p) given can));
    }

pub returns-in-Some-false : goal.returns-in-Some-false
returns-in-Some-false c =
    let p = problem_of c.args.root.now c.args.documents.now in
    let asked : List Demand = c.deref-2.result.now in
    let others : List Demand = take c.args.at c.args.root.now ++ reverse c.args.kept.now.items in
    let given : asked ≡ others = c.deref-2.ensures.value ∙ rw c.deref.ensures.value at c.in_ok-others.ensures in
    let none : NoneFits (problem_of asked c.args.documents.now) [] =
    subst (λ (o : Option Bool). IfSome o (λ is. is ≡ false → NoneFits (problem_of asked c.args.documents.now) []))
    c.in-Some-false.is c.in_ok-can_be_met.ensures.none c.in-Some-false.field-0-test in
    record {
      missed = λ is. left_out p c.args.at any c.requires.at c.args.kept.now.items c.requires.missed
          (λ can. none_can p asked none (subst (CanBeMet p) (sym given) can));
    }
