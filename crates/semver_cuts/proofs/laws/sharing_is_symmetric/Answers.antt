use Rattle.semver_cuts.specs.Lemmas.CommonSpans.{common_spans-any}
use Rattle.semver_cuts.specs.Lemmas.Sharing.{shares_cut-back}
use Rattle.semver_cuts.proofs.laws.sharing_is_symmetric.Goals as goal

pub returns-clause-back : goal.returns-clause-back
returns-clause-back g c = shares_cut-back g.T.Ord.cmp

pub returns-clause-common : goal.returns-clause-common
returns-clause-common g c =
    λ ones others. let law = common_spans-any g.met.T.Ord.total ones others in (law.1, law.0)
