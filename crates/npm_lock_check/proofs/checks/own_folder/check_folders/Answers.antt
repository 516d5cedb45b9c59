-- The key is the first one.
use Rattle.std.proofs.Common.{inl, refl}
use Rattle.npm_lock_check.proofs.checks.own_folder.check_folders.Goals as goal

pub returns-in-Ok-clause-refused : goal.returns-in-Ok-clause-refused
returns-in-Ok-clause-refused c =
    inl (c.in-Ok.found, refl, (c.in-Some.key.now, rw c.in-Some.is at c.key_read_as_another.ensures))
