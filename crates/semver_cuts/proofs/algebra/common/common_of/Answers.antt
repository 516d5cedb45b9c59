use Rattle.std.proofs.Common.{refl}
use Rattle.semver_cuts.specs.Ends.{span_between}
use Rattle.semver_cuts.specs.Lemmas.TwoSpans.{common_of-rising}
use Rattle.semver_cuts.proofs.algebra.common.common_of.Goals as goal

pub gather-requires : goal.gather-requires
gather-requires g c κs = (
  (refl, tt),
  common_of-rising g.met.T.Ord.total c.args.one.now c.args.other.now
      (span_between c.in-Some.lower.now c.in-Some.upper.now) c.in-Some.ensures,
)
