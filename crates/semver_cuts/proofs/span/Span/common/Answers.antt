use Rattle.semver_cuts.specs.Lemmas.TwoSpans.{common_of-cuts}
use Rattle.semver_cuts.proofs.span.Span.common.Goals as goal

pub returns-clause-cuts : goal.returns-clause-cuts
returns-clause-cuts g c =
    rw c.ends_in_common.ensures (λ cut. common_of-cuts g.met.T.Ord.total c.args.self.now c.args.other.now cut)
