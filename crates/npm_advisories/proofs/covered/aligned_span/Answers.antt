-- The span between the two cuts, if it contains one.
use Rattle.npm_advisories.proofs.Covering.{aligned-result}
use Rattle.npm_advisories.proofs.covered.aligned_span.Goals as goal

pub returns : goal.returns
returns c =
    aligned-result c.args.set.now c.aligned.result c.aligned-2.result (rw c.lower.ensures at c.aligned.ensures)
    (rw c.upper.ensures at c.aligned-2.ensures) c.new.result c.new.ensures.cut c.new.ensures.ends
