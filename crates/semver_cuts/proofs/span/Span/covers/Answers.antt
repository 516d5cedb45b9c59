use Rattle.std.proofs.lemmas.Grind.{common_steps}
use native.Mathlib.Omega.{arith}
use Rattle.semver_cuts.specs.Ends.{span_between}
use Rattle.semver_cuts.specs.Lemmas.TwoSpans.{covers-by}
use Rattle.semver_cuts.proofs.span.Span.covers.Goals as goal

pub returns-then-le : goal.returns-then-le
returns-then-le g c =
    let one = span_between c.self.inside.lower c.self.inside.upper in
    let other = span_between c.other.inside.lower c.other.inside.upper in
    rw (← c.self.view_is) (rw (← c.other.view_is) (covers-by g.met.T.Ord.total one other c.other.invariant
    c.le-then-le.result (grind (arith, common_steps))))

pub returns-else-le : goal.returns-else-le
returns-else-le g c =
    let one = span_between c.self.inside.lower c.self.inside.upper in
    let other = span_between c.other.inside.lower c.other.inside.upper in
    rw (← c.self.view_is) (rw (← c.other.view_is) (covers-by g.met.T.Ord.total one other c.other.invariant
    c.le.result (grind (arith, common_steps))))
