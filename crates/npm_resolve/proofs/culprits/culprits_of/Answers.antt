-- The documents pose the same problem after the changes are sought.
use Rattle.std.proofs.Common.{◌≡◌, subst, sym}
use Rattle.std.specs.List.{AllZip}
use Rattle.std.proofs.lemmas.Result.{IfOk-weaker}
use Rattle.version_solving.specs.Documents.{problem_of}
use Rattle.version_solving.specs.Fitting.{IsChange}
use Rattle.version_solving.specs.Solving.{Problem}
use Rattle.npm_resolve.proofs.Changing.{culprits_before, same_problem}
use Rattle.npm_resolve.proofs.culprits.culprits_of.Goals as goal

pub blamed_asks-requires-clause-within : goal.blamed_asks-requires-clause-within
blamed_asks-requires-clause-within c = rw c.deref-2.ensures.value c.requires.within

pub changes-requires : goal.changes-requires
changes-requires c = rw c.deref-3.ensures.value c.requires.within

pub all_told-requires-clause-changes : goal.all_told-requires-clause-changes
all_told-requires-clause-changes c =
    let found = rw c.deref-3.ensures.value at c.in_ok-changes.ensures.changes in
    let same : problem_of c.args.posed.now.root.items c.changes.new.documents
    ≡ problem_of c.args.posed.now.root.items c.args.posed.now.documents =
    same_problem c.args.posed.now.root.items c.args.posed.now.documents c.changes.new.documents c.in_ok-changes.ensures.ranges
    c.in_ok-changes.ensures.packages in
    rw c.deref-5.ensures.value (subst (λ (p : Problem). AllZip (IsChange p) c.args.demands.now c.in_ok-changes.changes.items) (sym same) found)

pub returns : goal.returns
returns c = IfOk-weaker c.all_told.result _ _ (λ culprits told. culprits_before c.args.posed.now c.changes.new.documents
    (same_problem c.args.posed.now.root.items c.args.posed.now.documents c.changes.new.documents c.in_ok-changes.ensures.ranges
    c.in_ok-changes.ensures.packages) c.args.demands.now culprits.items told) c.all_told.ensures
