-- No release from 0.0.0 on is free of the spans.
use Rattle.npm_advisories.proofs.EachRelease.{each-by_none, not-some}
use Rattle.npm_advisories.proofs.each.have_each.Goals as goal

pub returns : goal.returns
returns c = each-by_none c.args.covered.now c.least_free.result c.is_none.result
    (not-some c.least_free.result c.is_none.result c.is_none.ensures)
    (rw c.new-zero.ensures at c.least_free.ensures)
