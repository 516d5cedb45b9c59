use Rattle.std.proofs.Common.{◌≡◌, [], All, Bool, Contains, IfSome, List, Option, false, subst}
use Rattle.version_solving.specs.Documents.{problem_of}
use Rattle.version_solving.specs.Solving.{NoneFits}
use Rattle.version_solving.specs.declared.demand.Demand.{Demand}
use Rattle.version_solving.proofs.Missed.{all_too_many, fewer_too_many}
use Rattle.version_solving.proofs.blame.too_many.Goals as goal

pub loop-init : goal.loop-init
loop-init c = rw c.in_ok-kept.ensures.items (all_too_many (problem_of c.args.root.now c.args.documents.now) c.requires)

pub loop-preserved : goal.loop-preserved
loop-preserved c =
    let asked : List Demand = c.deref-in-loop.result.now in
    let none : NoneFits (problem_of asked c.args.documents.now) [] =
    subst (λ (o : Option Bool). IfSome o (λ is. is ≡ false → NoneFits (problem_of asked c.args.documents.now) []))
    c.in-Some-false.is c.in_ok-can_be_met.ensures.none c.in-Some-false.field-0-test in
    fewer_too_many (problem_of c.args.root.now c.args.documents.now) c.loop.kept.items c.in_ok-fewer.fewer.items c.loop.invariant
    (subst (λ (ds : List Demand). All (Contains ds) c.in_ok-fewer.fewer.items) c.deref.ensures.value c.in_ok-fewer.ensures)
    (subst (λ (ds : List Demand). NoneFits (problem_of ds c.args.documents.now) []) c.deref-in-loop.ensures.value none)
