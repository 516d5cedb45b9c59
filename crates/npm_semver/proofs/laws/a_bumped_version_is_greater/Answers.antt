use Rattle.npm_semver.proofs.Versions.Upward.{above-version}
use Rattle.npm_semver.proofs.laws.a_bumped_version_is_greater.Goals as goal

pub returns : goal.returns
returns c = above-version
