use Rattle.std.proofs.Common.{arith}
use Rattle.std.proofs.lemmas.Grind.{common_steps}
use Rattle.semver_versions.specs.Lemmas.Print.{led_text-marked}
use Rattle.semver_versions.proofs.version.display.write_version.Goals as goal

pub returns : goal.returns
returns g c =
    rw (← led_text-marked 45 c.args.pre_release.now, ← led_text-marked 43 c.args.build.now)
    (grind (arith, common_steps))
