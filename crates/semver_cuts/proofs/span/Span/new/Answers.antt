use Rattle.std.proofs.lemmas.Grind.{common_steps}
use native.Mathlib.Omega.{arith}
use Rattle.semver_cuts.specs.Lemmas.Ends.{at_most-below, at_most_refl, below-from_lt}
use Rattle.semver_cuts.proofs.span.Span.new.Goals as goal

pub returns-then-lt-clause-cut : goal.returns-then-lt-clause-cut
returns-then-lt-clause-cut g c = grind (arith, common_steps, at_most_refl g.met.T.Ord.total, below-from_lt g.T.Ord.cmp)

pub returns-else-lt-clause-cut : goal.returns-else-lt-clause-cut
returns-else-lt-clause-cut g c =
    (λ e. cc, λ holds. absurd (grind (arith, common_steps, at_most-below g.met.T.Ord.total c.args.lower holds.0)))
