use Rattle.std.proofs.Common.{rules, of_calls, List, ◌≡◌, ◌++◌, ◌∙◌, arith, ap, map, sym}
use Rattle.std.specs.Prelude.{filter}
use Rattle.std.specs.List.Sorted.{ties}
use Rattle.std.specs.Ordering.{is_lt}
use Rattle.std.proofs.lemmas.Fn.{always_returns_same}
use Rattle.std.proofs.lemmas.List.{append-nil, drop_all}
use Rattle.semver_sets.specs.Private.SearchViews.{is_opening_of, openings_from}
use Rattle.semver_texts.specs.Triple.{triple_cmp, triple_of}
use Rattle.semver_sets.specs.declared.set_list.opened.Opening.{Opening}
use Rattle.std.proofs.lemmas.List.Elements.{filter_agree}
use Rattle.semver_sets.proofs.Sets.OpeningOrder.{ties-same}
use Rattle.semver_sets.proofs.Sets.Openings.{named-all}
use Rattle.semver_sets.proofs.set_list.opened.openings.Goals as goal

pub returns : goal.returns
returns c =
    let sets = c.args.sets.now in
    let xs : List Opening = c.sets.openings.items in
    let ys : List Opening = c.sort_by_key.new.self.items in
    let none = drop_all c.sets.place sets (omega arith) in
    let all : xs ≡ openings_from 0 sets =
    sym (append-nil xs) ∙ ap (λ l. xs ++ openings_from c.sets.place l) (sym none) ∙ c.sets.invariant in
    record {
      ascending = c.in_ok-sort_by_key.ensures.sorted (λ o. o.triple)
          (always_returns_same _ _ _ (λ a r f k. search (rules, of_calls)));
      places = λ v.
          let x : Opening = record { triple = triple_of v; place = 0 } in
          let is_tied = ties (λ (a b : Opening). is_lt (triple_cmp a.triple b.triple)) x in
          let stable : filter is_tied ys ≡ filter is_tied xs =
          c.sort_by_key.ensures.stable (λ o. o.triple)
          (always_returns_same _ _ _ (λ a r f k. search (rules, of_calls))) x in
          ap (map (λ (o : Opening). o.place))
          (sym (filter_agree is_tied (is_opening_of v) (ties-same v 0) ys) ∙ stable
          ∙ filter_agree is_tied (is_opening_of v) (ties-same v 0) xs
          ∙ ap (filter (is_opening_of v)) all)
          ∙ named-all v 0 sets;
    }
