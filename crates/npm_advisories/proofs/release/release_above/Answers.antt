-- The release of the numbers of a prerelease, or the next patch.
use Rattle.npm_advisories.proofs.ReleaseCuts.{above-prerelease, above-release}
use Rattle.npm_advisories.proofs.release.release_above.Goals as goal

pub returns-then-is_prerelease : goal.returns-then-is_prerelease
returns-then-is_prerelease c = rw c.release_of.ensures
    (above-prerelease c.args.version.now (c.is_prerelease.ensures.0 c.if-is_prerelease.true))

pub returns-else-is_prerelease : goal.returns-else-is_prerelease
returns-else-is_prerelease c = rw c.next_patch.ensures (above-release c.args.version.now (λ pre.
    let yes = c.is_prerelease.ensures.1 pre in cc (yes, c.if-is_prerelease.false)))
