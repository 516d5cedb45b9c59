-- The order of cuts follows the order of the values, and is the only one that does.
use native.Mathlib.Omega.{arith}
use Rattle.std.proofs.Common.{◌≡◌, ap, ◌∙◌, Ordering, Less, Equal, Greater}
use Rattle.std.specs.Ordering.{ordering_then, ordering_reverse}
use Rattle.std.specs.Cmp.{IsTotalOrder, tied_itself}
use Rattle.semver_cuts.specs.declared.cut.Cut.{Cut}
use Rattle.semver_cuts.specs.declared.cut.Cut.TheVariants.{Before, After}
use Rattle.semver_cuts.specs.Cut.{cut_cmp}
use Rattle.semver_cuts.specs.CutLaws.{IsOrderOfCuts}

module _ {T : Type 0} {cmp : T → T → Ordering} (o : IsTotalOrder cmp) where
  pub cut_cmp-order : IsOrderOfCuts cmp (cut_cmp cmp)
  cut_cmp-order = grind arith

  module _ {order : Cut T → Cut T → Ordering} (l : IsOrderOfCuts cmp order) where
    turn : (c d : Cut T) → order d c ≡ Less → order c d ≡ Greater
    turn c d p = l.total.antisymm c d ∙ ap ordering_reverse p

    back : (v w : T) → cmp v w ≡ Greater → cmp w v ≡ Less
    back v w p = o.antisymm w v ∙ ap ordering_reverse p

    before_before : (v w : T) → cmp v w ≡ Less → order (Before v) (Before w) ≡ Less
    before_before v w p = l.total.trans (Before v) (After v) (Before w) (l.sides v) (l.values v w p)

    after_after : (v w : T) → cmp v w ≡ Less → order (After v) (After w) ≡ Less
    after_after v w p = l.total.trans (After v) (Before w) (After w) (l.values v w p) (l.sides w)

    before_after : (v w : T) → cmp v w ≡ Less → order (Before v) (After w) ≡ Less
    before_after v w p = l.total.trans (Before v) (After v) (After w) (l.sides v) (after_after v w p)

    level : (v w : T) → cmp v w ≡ Equal → order (Before v) (After w) ≡ Less
    level v w p = l.total.congr (Before v) (Before w) (After w) (l.before_same v w p) ∙ l.sides w

    even : (v w : T) → cmp v w ≡ Equal → cmp w v ≡ Equal
    even v w p = o.antisymm w v ∙ ap ordering_reverse p

    both_before : (v w : T) (r : Ordering) → cmp v w ≡ r → order (Before v) (Before w) ≡ r
    both_before v w r h1 = grind (arith, before_before, turn, back)

    both_after : (v w : T) (r : Ordering) → cmp v w ≡ r → order (After v) (After w) ≡ r
    both_after v w r h1 = grind (arith, after_after, turn, back)

    first_before : (v w : T) (r : Ordering) → cmp v w ≡ r → order (Before v) (After w) ≡ ordering_then r Less
    first_before v w r h1 = grind (arith, before_after, level, turn, back)

    first_after : (v w : T) (r : Ordering) → cmp v w ≡ r → order (After v) (Before w) ≡ ordering_then r Greater
    first_after v w r h1 = grind (arith, turn, level, even, before_after, back)

    pub only_order : (c d : Cut T) → order c d ≡ cut_cmp cmp c d
    only_order c d = grind (arith, tied_itself l.total, both_before, first_before, first_after, both_after, turn)
