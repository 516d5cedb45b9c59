-- The first demand is for what the range does not allow.
use Rattle.std.proofs.Common.{◌≡◌, ◌∙◌, ◌++◌, ◌∷◌, List, [], ap, length, refl, rules, subst, sym, true}
use Rattle.version_solving.specs.Documents.{problem_of}
use Rattle.version_solving.specs.Fitting.{IsFirst}
use Rattle.version_solving.specs.declared.demand.Demand.{Demand}
use Rattle.version_solving.specs.declared.documents.Documents.{Documents}
use Rattle.version_solving.proofs.TurnedDocuments.{is_turned}
use Rattle.version_solving.proofs.TurnedProblems.{is_first}
use Rattle.version_solving.proofs.change.first_outside.Goals as goal

pub returns-clause-change : goal.returns-clause-change
returns-clause-change c =
    let others : List Demand = c.args.others.now in
    let old = c.args.documents.now in
    let new : Documents = record { packages = old.packages; ranges = c.push-2.new.self } in
    let front : Demand = record { name = c.args.demand.name; range = c.len.result; needed = true } in
    let number : c.len.result ≡ length old.ranges.items = search rules in
    let at_front : c.deref.result.now ≡ record { name = c.args.demand.name; range = length old.ranges.items; needed = true } ∷ others =
    c.deref.ensures.value ∙ (c.in_ok-extend_from_slice.ensures.items
    ∙ (ap (λ xs. xs ++ others) (c.in_ok-push.ensures.items ∙ ap (λ xs. xs ++ front ∷ []) c.new-demands.ensures.items)
    ∙ ap (λ n. record { name = c.args.demand.name; range = n; needed = true } ∷ others) number)) in
    subst (IsFirst (problem_of others old) c.args.demand.name c.args.demand.range) (sym c.change_in.ensures)
    (is_first (problem_of others old) (problem_of c.deref.result.now new) c.args.demand.name c.args.demand.range (length old.ranges.items)
    (is_turned others c.deref.result.now old new c.in_ok-outside.outside c.args.demand.name c.args.demand.range refl
    c.in_ok-push-2.ensures.items c.requires at_front c.in_ok-outside.ensures)
    c.in_ok-outcome.outcome c.in_ok-outcome.ensures.selection c.in_ok-outcome.ensures.none)
