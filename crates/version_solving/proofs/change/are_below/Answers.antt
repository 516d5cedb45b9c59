-- One demand more has a range below the number.
use Rattle.std.proofs.Common.{◌<◌, subst}
use Rattle.std.specs.List.{All}
use Rattle.std.proofs.lemmas.List.{take_all}
use Rattle.std.proofs.lemmas.List.Elements.{All-more}
use Rattle.version_solving.specs.declared.demand.Demand.{Demand}
use Rattle.version_solving.proofs.change.are_below.Goals as goal

pub loop-demand-preserved : goal.loop-demand-preserved
loop-demand-preserved c = All-more (λ (d : Demand). d.range < c.args.number) c.args.demands.now c.loop-demand.demand-index _
    c.loop-demand-test.true c.loop-demand.invariant c.if-demand-number.false

pub returns : goal.returns
returns c = λ yes. subst (All (λ (d : Demand). d.range < c.args.number))
    (take_all c.loop-demand.demand-index c.args.demands.now c.loop-demand-test.false) c.loop-demand.invariant
