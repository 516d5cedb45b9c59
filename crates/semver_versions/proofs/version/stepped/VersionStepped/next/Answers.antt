use Rattle.std.proofs.Common.{rules}
use Rattle.semver_versions.specs.Lemmas.Versions.VersionSteps.{patch-next, zero-next}
use Rattle.semver_versions.proofs.version.stepped.VersionStepped.next.Goals as goal

pub returns-then-is_prerelease-clause-next : goal.returns-then-is_prerelease-clause-next
returns-then-is_prerelease-clause-next c = zero-next c.args.self.now _ (search rules) (search rules)

pub returns-in_ok-with_pre_release-in-Some-clause-next :
    goal.returns-in_ok-with_pre_release-in-Some-clause-next
returns-in_ok-with_pre_release-in-Some-clause-next c = patch-next c.args.self.now _ (search rules) (search rules)
    (search rules)
