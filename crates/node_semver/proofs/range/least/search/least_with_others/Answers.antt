use native.Mathlib.Omega.{arith}
use Rattle.std.proofs.Common.{subst}
use Rattle.std.proofs.lemmas.List.{take_all}
use Rattle.semver_cuts.specs.declared.cut.Cut.{Cut}
use Rattle.semver_texts.specs.Version.{VersionValue}
use Rattle.node_semver.specs.Private.CandidateViews.{IsCutTrial}
use Rattle.node_semver.proofs.Least.CandidateSteps.{ends-more}
use Rattle.node_semver.proofs.range.least.search.least_with_others.Goals as goal

pub sets-init : goal.sets-init
sets-init g c = record { first = c.requires.found; each = tt }

pub sets-preserved : goal.sets-preserved
sets-preserved g c =
    let Wanted = g.Q.Question.wanted g.I.Inclusion.included c.args.range.now c.args.other.now in
    ends-more g.I.Inclusion.included Wanted g.Q.Question.end c.args.range.now c.args.sets.now c.sets.set-index
    c.set-item.result c.sets.best
    c.try_cut.new.best c.sets-test.true c.set-item.is c.sets.invariant
    (subst (λ (cut : Cut VersionValue). IsCutTrial g.I.Inclusion.included Wanted c.sets.best cut c.try_cut.new.best)
    c.end_of.ensures.end c.try_cut.ensures)

pub returns : goal.returns
returns g c = grind (arith, take_all)
