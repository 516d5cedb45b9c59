-- The cut of an event.
use Rattle.std.proofs.Common.{refl}
use Rattle.npm_advisories.specs.Lemmas.Versions.{version-end}
use Rattle.npm_advisories.proofs.osv.events.mark_of.Goals as goal

pub returns-in_ok-version_of-in-Fixed-clause-read : goal.returns-in_ok-version_of-in-Fixed-clause-read
returns-in_ok-version_of-in-Fixed-clause-read c =
    let v = c.in_ok-version_of-in-Fixed.field-0 in
    let read = c.in_ok-version_of-in-Fixed.ensures.read in
    rw c.in-Fixed.is ((v, read, refl), version-end c.in-Fixed.text.now v read)

pub returns-in_ok-version_of-in-LastAffected-clause-read : goal.returns-in_ok-version_of-in-LastAffected-clause-read
returns-in_ok-version_of-in-LastAffected-clause-read c =
    let v = c.in_ok-version_of-in-LastAffected.field-0 in
    let read = c.in_ok-version_of-in-LastAffected.ensures.read in
    rw c.in-LastAffected.is ((v, read, refl), version-end c.in-LastAffected.text.now v read)
