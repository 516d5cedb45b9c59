use Rattle.semver_command.proofs.ReadTexts.{found_read, own_unfound}
use Rattle.semver_command.proofs.written.coerced_version.Goals as goal

pub returns-in-Some : goal.returns-in-Some
returns-in-Some c = found_read c.args.options c.args.text.now c.in-Some.version c.bare_version.result c.requires
    (rw c.in-Some.is at c.in_ok-version.ensures) c.bare_version.ensures

pub returns-in-None : goal.returns-in-None
returns-in-None c = own_unfound c.args.options c.args.text.now c.own_version.result c.requires
    (rw c.in-None.is at c.in_ok-version.ensures) c.own_version.ensures
