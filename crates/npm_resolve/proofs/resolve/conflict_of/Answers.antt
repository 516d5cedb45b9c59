-- The culprits are demands of the root.
use Rattle.std.proofs.Common.{All, Contains, List, subst}
use Rattle.version_solving.specs.declared.demand.Demand.{Demand}
use Rattle.npm_resolve.proofs.resolve.conflict_of.Goals as goal

pub culprits_of-requires-clause-within : goal.culprits_of-requires-clause-within
culprits_of-requires-clause-within c =
    let culprits = rw c.in-Some.is at c.in_ok-demands.ensures.culprits in
    rw c.deref-in-Some-2.ensures.value
    (subst (λ (ds : List Demand). All (Contains ds) c.in-Some.demands.items) c.deref.ensures.value culprits.within)
