use Rattle.std.proofs.Common.{[], List, None, Some, arith, subst}
use Rattle.version_solving.specs.Documents.{problem_of}
use Rattle.version_solving.specs.Private.Values.{IsGone}
use Rattle.version_solving.specs.declared.demand.Demand.{Demand}
use Rattle.version_solving.proofs.Ruling.{backward}
use Rattle.version_solving.proofs.ruled.Ruled.excludes_backward.Goals as goal

pub returns : goal.returns
returns c =
    let p = problem_of [] c.args.documents.now in
    λ yes. backward p c.args.self.now.rows.items c.args.asker c.args.candidate c.args.name
    (subst (λ (ds : List Demand). IsGone p c.args.self.now.rows.items ds c.args.name None) c.demands-demands.ensures (c.is_gone.ensures c.if-not-is_gone.false))
    (λ k small. subst (λ (ds : List Demand). IsGone p c.args.self.now.rows.items ds c.args.name (Some k)) c.demands-demands.ensures
    (c.loop-value.invariant k (omega arith)))
