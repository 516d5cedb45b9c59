use Rattle.std.proofs.Common.{List, drop}
use Rattle.semver_cuts.specs.Ends.{Ends}
use Rattle.semver_cuts.specs.Private.Placed.{AreSorted}
use Rattle.semver_cuts.proofs.Joining.JoinedPlaces.{IsRunning}
use Rattle.semver_cuts.proofs.algebra.places.places_in_order.Given as goal

abbrev pub invariant-loop-next : goal.invariant-loop-next
invariant-loop-next g l = (spans : List (Ends g.row.T.Denot)) (s : AreSorted g.T.Ord.cmp spans l.fn.order)
    → IsRunning g.met.T.Ord.total spans l.fn.order s l.pairs.items l.begun l.place l.upper (drop l.next-index l.later)
