use Rattle.std.proofs.Common.{arith}
use Rattle.std.proofs.lemmas.Grind.{common_steps}
use Rattle.semver_versions.specs.Lemmas.Print.{led_values-marked}
use Rattle.semver_versions.proofs.version_ref.display.VersionRefDisplay.fmt.Goals as goal

pub returns-clause-writes : goal.returns-clause-writes
returns-clause-writes g c =
    rw (← c.self.view_is, ← led_values-marked 45 c.self.inside.pre_release, ← led_values-marked 43 c.self.inside.build)
    (grind (arith, common_steps))
