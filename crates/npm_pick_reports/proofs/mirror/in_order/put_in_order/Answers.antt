-- What `dedup` leaves of the sorted texts is in order, and has each text.
use Rattle.std.proofs.lemmas.List.Filters.{dedup_is}
use Rattle.npm_pick_reports.proofs.TextOrder.{once_exact, once_in_order}
use Rattle.npm_pick_reports.proofs.mirror.in_order.put_in_order.Goals as goal

pub returns-clause-ordered : goal.returns-clause-ordered
returns-clause-ordered c = once_in_order _ _ _ c.sort_unstable.ensures.permutation c.sort_unstable.ensures.sorted
    (dedup_is _ _ _ c.dedup.ensures.filtered)

pub returns-clause-exact : goal.returns-clause-exact
returns-clause-exact c = once_exact _ _ _ c.sort_unstable.ensures.permutation c.sort_unstable.ensures.sorted
    (dedup_is _ _ _ c.dedup.ensures.filtered)
