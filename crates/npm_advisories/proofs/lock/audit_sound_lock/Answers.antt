-- The installed packages are those of the lock file.
use Rattle.std.proofs.Common.{map}
use Rattle.npm_advisories.specs.Audit.{installed_value}
use Rattle.npm_advisories.proofs.lock.audit_sound_lock.Goals as goal

pub returns-in-Err-Refused-clause-refused : goal.returns-in-Err-Refused-clause-refused
returns-in-Err-Refused-clause-refused c =
    let told = rw (c.deref.ensures.value, c.in-Err-Refused.field-0-is) at c.in-Err-Refused.ensures.refused in
    (map installed_value c.in-Ok.installed.items, c.in-Ok.ensures, told)
