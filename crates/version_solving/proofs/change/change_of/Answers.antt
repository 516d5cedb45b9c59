-- The others are those before the demand and those behind it.
use Rattle.std.proofs.Common.{◌≡◌, ◌∙◌, ◌+◌, ◌++◌, ◌∷◌, ℕ, List, Some, ap, drop, slice_get, subst, sym, take}
use Rattle.std.proofs.lemmas.List.{drop_more, take-append-drop, take_rest}
use Rattle.std.proofs.lemmas.Option.{get_or_from_slice_get, slice_get_within}
use Rattle.std.proofs.lemmas.Result.{IfOk-weaker}
use Rattle.version_solving.specs.Documents.{problem_of}
use Rattle.version_solving.specs.Fitting.{IsFirst}
use Rattle.version_solving.specs.declared.demand.Demand.{Demand}
use Rattle.version_solving.proofs.change.change_of.Goals as goal

splits : (root : List Demand) (place : ℕ) (d : Demand) → slice_get root place ≡ Some d
    → root ≡ take place root ++ d ∷ drop (place + 1) root
splits root place d is = sym (take-append-drop place root)
    ∙ (ap (λ ys. take place root ++ ys) (drop_more root place d (slice_get_within root place d is))
    ∙ ap (λ e. take place root ++ e ∷ drop (place + 1) root) (get_or_from_slice_get root place d d is))

pub returns-then-have_ranges-clause-change : goal.returns-then-have_ranges-clause-change
returns-then-have_ranges-clause-change c =
    let root : List Demand = c.args.root.now in
    let place : ℕ = c.place_of-place.result in
    let same : c.deref-then-have_ranges.result.now ≡ take place root ++ drop (place + 1) root =
    c.deref-then-have_ranges.ensures.value ∙ (c.in_ok-extend_from_slice.ensures.items
    ∙ (ap (λ xs. c.in_ok-others.others.items ++ xs) (take_rest root (place + 1))
    ∙ ap (λ xs. xs ++ drop (place + 1) root) c.in_ok-others.ensures.items)) in
    IfOk-weaker c.first_outside.result _ _ (λ change first. record {
      before = take place root;
      after = drop (place + 1) root;
      root = splits root place c.args.demand c.place_of-place.ensures.there;
      first = subst (λ os. IsFirst (problem_of os c.args.documents.now) c.args.demand.name c.args.demand.range change) same first;
    }) c.first_outside.ensures.change

pub returns-clause-change : goal.returns-clause-change
returns-clause-change c = record {
  before = take c.place_of-place.result c.args.root.now;
  after = drop (c.place_of-place.result + 1) c.args.root.now;
  root = splits c.args.root.now c.place_of-place.result c.args.demand c.place_of-place.ensures.there;
  first = tt;
}
