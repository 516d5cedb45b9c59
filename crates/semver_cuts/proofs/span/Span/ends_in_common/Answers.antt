use Rattle.std.proofs.lemmas.Grind.{common_steps}
use native.Mathlib.Omega.{arith}
use Rattle.semver_cuts.specs.Lemmas.Ends.{at_most-from_not_lt}
use Rattle.semver_cuts.specs.Lemmas.TwoSpans.{common_of-none}
use Rattle.semver_cuts.proofs.span.Span.ends_in_common.Goals as goal

pub returns-else-lt-2 : goal.returns-else-lt-2
returns-else-lt-2 g c =
    grind (arith, common_steps, common_of-none g.met.T.Ord.total, at_most-from_not_lt g.met.T.Ord.total)

pub returns-else-lt-3 : goal.returns-else-lt-3
returns-else-lt-3 g c =
    grind (arith, common_steps, common_of-none g.met.T.Ord.total, at_most-from_not_lt g.met.T.Ord.total)
