use Rattle.std.proofs.lemmas.Grind.{common_steps}
use native.Mathlib.Omega.{arith}
use Rattle.semver_cuts.specs.Ends.{span_between}
use Rattle.semver_cuts.specs.Lemmas.TwoSpans.{shares-by}
use Rattle.semver_cuts.proofs.span.Span.shares_cut.Goals as goal

pub returns-then-lt : goal.returns-then-lt
returns-then-lt g c =
    let one = span_between c.self.inside.lower c.self.inside.upper in
    let other = span_between c.other.inside.lower c.other.inside.upper in
    rw (← c.self.view_is) (rw (← c.other.view_is) (shares-by g.met.T.Ord.total one other c.self.invariant
    c.other.invariant
    c.lt-then-lt.result (grind (arith, common_steps))))

pub returns-else-lt : goal.returns-else-lt
returns-else-lt g c =
    let one = span_between c.self.inside.lower c.self.inside.upper in
    let other = span_between c.other.inside.lower c.other.inside.upper in
    rw (← c.self.view_is) (rw (← c.other.view_is) (shares-by g.met.T.Ord.total one other c.self.invariant
    c.other.invariant
    c.lt.result (grind (arith, common_steps))))
