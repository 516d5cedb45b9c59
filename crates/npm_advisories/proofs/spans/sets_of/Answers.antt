-- The sets of one advisory more.
use Rattle.npm_advisories.proofs.SpanLists.{all-sets, next-sets, no-sets}
use Rattle.npm_advisories.proofs.spans.sets_of.Goals as goal

pub loop-advisory-init : goal.loop-advisory-init
loop-advisory-init c = rw c.new-all.ensures.items no-sets

pub loop-advisory-preserved : goal.loop-advisory-preserved
loop-advisory-preserved c =
    next-sets c.args.advisories.now c.loop-advisory.advisory-index c.advisory-item.result c.loop-advisory.all.items
    c.in_ok-sets.sets.items c.append.new.self.items c.loop-advisory-test.true c.advisory-item.is
    c.in_ok-append.ensures.items c.in_ok-sets.ensures.sets c.in_ok-sets.ensures.holds c.loop-advisory.invariant

pub returns : goal.returns
returns c =
    all-sets c.args.advisories.now c.loop-advisory.advisory-index c.loop-advisory.all.items c.loop-advisory-test.false
    c.loop-advisory.invariant
