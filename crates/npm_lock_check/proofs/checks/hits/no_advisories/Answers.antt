-- The kind is that of the fault.
use Rattle.std.proofs.Common.{inl, refl}
use Rattle.npm_lock_check.proofs.checks.hits.no_advisories.Goals as goal

pub returns-in-Ok-shown_fault : goal.returns-in-Ok-shown_fault
returns-in-Ok-shown_fault c = inl (c.in-Ok.name, c.args.fault.place, c.in-Ok-shown_fault.shown, refl)
