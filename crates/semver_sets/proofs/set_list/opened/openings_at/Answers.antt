use Rattle.std.proofs.Common.{rules, of_calls, List, ◌≡◌, ◌-◌, ◌∙◌, arith, ap, drop, length, sym, subst, take}
use Rattle.std.proofs.Common.{true, false}
use Rattle.std.specs.List.{AllByRecursion}
use Rattle.std.specs.List.Sorted.{IsPartitionedBy}
use Rattle.std.proofs.lemmas.Fn.{always_returns_same}
use Rattle.std.proofs.lemmas.List.{length-drop, take_all}
use Rattle.semver_sets.specs.declared.set_list.opened.Opening.{Opening}
use Rattle.semver_sets.proofs.Sets.OpeningOrder.{found-openings, is_at_most, is_below, parted-at_most, parted-below}
use Rattle.semver_sets.proofs.Sets.OpeningOrder.{parted-drop}
use Rattle.semver_sets.proofs.set_list.opened.openings_at.Goals as goal

pub returns : goal.returns
returns c =
    let xs : List Opening = c.args.openings.now in
    let t = c.args.triple in
    let i = c.partition_point-begin.result in
    let j = c.count_at_most-end.result in
    let some : List Opening = take (length xs - i) (drop i xs) in
    let same : some ≡ drop i xs = take_all (length xs - i) (drop i xs) (omega (arith, length-drop i xs)) in
    let first = c.partition_point-begin.ensures.partitioned (is_below t)
    (always_returns_same _ _ _ (λ a r f k. search (rules, of_calls))) (parted-below t xs c.requires) in
    let second = c.count_at_most-end.ensures in
    ap (take j) same
    ∙ found-openings t xs i j c.partition_point-begin.ensures.bound first
    (subst (λ (l : List Opening). AllByRecursion (λ o. is_at_most t o ≡ true) (take j l)) same second.first)
    (subst (λ (l : List Opening). AllByRecursion (λ o. is_at_most t o ≡ false) (drop j l)) same second.others)

-- the openings behind the first ones are in order too
pub count_at_most-end-requires : goal.count_at_most-end-requires
count_at_most-end-requires c =
    let xs : List Opening = c.args.openings.now in
    let t = c.args.triple in
    let i = c.partition_point-begin.result in
    let some : List Opening = take (length xs - i) (drop i xs) in
    let same : some ≡ drop i xs = take_all (length xs - i) (drop i xs) (omega (arith, length-drop i xs)) in
    subst (IsPartitionedBy (is_at_most t)) (sym same) (parted-drop (is_at_most t) i xs (parted-at_most t xs c.requires))
