use Rattle.std.proofs.lemmas.Grind.{common_steps}
use native.Mathlib.Omega.{arith}
use Rattle.std.proofs.Common.{subst, sym}
use Rattle.semver_cuts.specs.Lemmas.Joined.{places_of-merged}
use Rattle.semver_cuts.specs.Private.Placed.{AreSorted}
use Rattle.semver_cuts.proofs.Joining.JoinedPlaces.{joined-places}
use Rattle.semver_cuts.proofs.Joining.PlacedOrder.{two-items}
use Rattle.semver_cuts.proofs.algebra.places.Places.of.Goals as goal

pub returns-then-are_merged : goal.returns-then-are_merged
returns-then-are_merged g c = grind (arith, common_steps, places_of-merged g.met.T.Ord.total)

pub returns-in-len2 : goal.returns-in-len2
returns-in-len2 g c =
    let sorted = subst (λ l. AreSorted g.T.Ord.cmp l c.two_in_order-order.result) (sym (two-items c.args.spans.now
    c.one-item.result c.other-item.result c.in-len2.len_at_least c.in-len2.len_below c.one-item.is c.other-item.is))
    c.two_in_order-order.ensures in
    grind (
      arith,
      joined-places g.met.T.Ord.total c.args.spans.now sorted.rising,
      c.in_ok-pairs.ensures
          c.args.spans.now,
    )

pub returns : goal.returns
returns g c =
    let sorted = subst (AreSorted g.T.Ord.cmp c.args.spans.now) (sym c.deref.ensures.value) c.in_ok-order.ensures in
    grind (
      arith,
      joined-places g.met.T.Ord.total c.args.spans.now sorted.rising,
      c.in_ok-pairs-2.ensures
          c.args.spans.now sorted,
    )
