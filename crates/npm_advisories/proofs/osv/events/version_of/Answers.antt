-- The text of a version passes the test, and any other does not.
use Rattle.std.proofs.Common.{refl}
use Rattle.npm_advisories.specs.Lemmas.VersionTests.{other-fails, version-passes}
use Rattle.npm_advisories.proofs.osv.events.version_of.Goals as goal

pub returns-in_ok-to_version-in-Ok-clause-sound : goal.returns-in_ok-to_version-in-Ok-clause-sound
returns-in_ok-to_version-in-Ok-clause-sound c =
    rw (version-passes c.args.text.now c.in-Ok.version c.in-Ok.ensures.found) refl

pub returns-in-Err-clause-refused : goal.returns-in-Err-clause-refused
returns-in-Err-clause-refused c = rw (other-fails c.args.text.now c.in-Err.ensures.only) refl
