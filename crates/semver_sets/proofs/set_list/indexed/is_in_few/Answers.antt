-- Each set is asked in turn.
use Rattle.std.proofs.lemmas.Grind.{common_steps}
use Rattle.std.proofs.Common.{◌+◌, arith}
use Rattle.std.proofs.lemmas.List.{take_all}
use Rattle.semver_cuts.specs.Lemmas.Lists.{any-at, none-more}
use Rattle.semver_sets.specs.Meaning.{SetAdmits}
use Rattle.semver_sets.proofs.Sets.FewSets.{first-count, more-comparisons}
use Rattle.semver_sets.proofs.set_list.indexed.is_in_few.Goals as goal

pub returns-then-admits_opened-clause-answer : goal.returns-then-admits_opened-clause-answer
returns-then-admits_opened-clause-answer g c = grind (arith, any-at)

pub returns-then-admits_opened-clause-short : goal.returns-then-admits_opened-clause-short
returns-then-admits_opened-clause-short g c =
    let v = g.V.AsVersion.seen c.args.version.now in
    let first = first-count v (c.sets.set-index + 1) c.args.sets.now in
    let more = more-comparisons v c.args.sets.now c.sets.set-index c.set-item.result c.sets-test.true c.set-item.is
    (g.C.Counts.count c.args.comparisons.now) (g.C.Counts.count c.sets.comparisons)
    (g.C.Counts.count c.admits_opened.new.comparisons) c.sets.invariant.short c.admits_opened.ensures.short
    c.admits_opened.ensures.unopened in
    omega (arith, first, more)

pub sets-preserved : goal.sets-preserved
sets-preserved g c = record {
  none = none-more (λ set. SetAdmits set (g.V.AsVersion.seen c.args.version.now)) c.args.sets.now c.sets.set-index
      c.set-item.result c.sets-test.true c.set-item.is c.sets.invariant.none
      (λ admits. cc (c.if-admits_opened.false, c.admits_opened.ensures.answer.1 admits));
  adds = omega arith;
  short = more-comparisons (g.V.AsVersion.seen c.args.version.now) c.args.sets.now c.sets.set-index c.set-item.result
      c.sets-test.true c.set-item.is (g.C.Counts.count c.args.comparisons.now) (g.C.Counts.count c.sets.comparisons)
      (g.C.Counts.count c.admits_opened.new.comparisons) c.sets.invariant.short c.admits_opened.ensures.short
      c.admits_opened.ensures.unopened;
}

pub returns-clause-answer : goal.returns-clause-answer
returns-clause-answer g c = grind (arith, take_all)

pub returns-clause-short : goal.returns-clause-short
returns-clause-short g c = grind (arith, common_steps, first-count)
