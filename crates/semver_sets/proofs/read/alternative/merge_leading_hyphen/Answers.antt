use Rattle.std.proofs.Common.{subst}
use Rattle.semver_sets.specs.Private.RangeViews.{IsNarrowed}
use Rattle.semver_sets.specs.Private.WordReading.{Word}
use Rattle.semver_sets.proofs.read.alternative.merge_leading_hyphen.Goals as goal

pub returns-clause-common : goal.returns-clause-common
returns-clause-common c =
    subst (λ (w : Word). IsNarrowed c.args.common.now w.0 c.merge_some.new.common) c.read_leading_hyphen.ensures
    c.in_ok-merge_some.ensures
