use Rattle.npm_semver.proofs.Versions.Differences.{differs, release-differs}
use Rattle.npm_semver.proofs.laws.a_bumped_version_differs_by_its_bump.Goals as goal

pub returns-clause-release : goal.returns-clause-release
returns-clause-release c = λ bump identifier base v w. release-differs identifier base v w bump

pub returns-clause-every : goal.returns-clause-every
returns-clause-every c = λ bump identifier base v w. differs identifier base v w bump
