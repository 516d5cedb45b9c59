use Rattle.std.proofs.Common.{refl}
use Rattle.semver_texts.proofs.as_version.TripleAsVersion.is_prerelease.Goals as goal

pub returns : goal.returns
returns c = ((λ e. cc e), (λ some. absurd (some refl)))
