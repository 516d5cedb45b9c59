-- The openings are in order, so none has a smaller triple behind the first that is greater.
use Rattle.std.proofs.lemmas.Grind.{common_steps}
use Rattle.std.proofs.Common.{◌∙◌, ap, arith, sym, true}
use Rattle.std.specs.Ordering.{is_le}
use Rattle.std.proofs.lemmas.List.{drop_all}
use Rattle.semver_sets.proofs.Sets.OpeningOrder.{failed-from, is_at_most, passed-more}
use Rattle.semver_sets.proofs.set_list.opened.count_at_most.Goals as goal

pub loop-place-preserved : goal.loop-place-preserved
loop-place-preserved c = grind (arith, common_steps, passed-more, is_at_most)

pub returns-then-not-is_le-clause-others : goal.returns-then-not-is_le-clause-others
returns-then-not-is_le-clause-others c =
    failed-from (is_at_most c.args.triple) c.args.openings.now c.loop-place.place _ c.loop-place-test.true c.requires
    (ap is_le (sym c.cmp.ensures) ∙ sym c.if-not-is_le.ensures)

pub returns-clause-first : goal.returns-clause-first
returns-clause-first c = grind (arith, is_at_most)

pub returns-clause-others : goal.returns-clause-others
returns-clause-others c = grind (arith, is_at_most, drop_all)
