-- The lock file or the manifest has a fault.
use Rattle.std.proofs.Common.{◌≡◌, Some, inl, option_map, refl, sym}
use Rattle.serde_json.specs.View.{view}
use Rattle.npm_lock.specs.VersionOne.{any_fault}
use Rattle.npm_lock_check.proofs.checks.sound.refuse.Goals as goal

pub returns-in-Ok-Some-clause-refused : goal.returns-in-Ok-Some-clause-refused
returns-in-Ok-Some-clause-refused c =
    let fault : Some c.in-Ok-Some.found.fault
    ≡ any_fault (view c.args.lock.now) (option_map (λ manifest. view manifest.now) c.args.manifest) =
    rw c.in-Ok-Some.field-0-is at c.in-Ok-Some.ensures in
    inl (c.in-Ok-Some.found, refl, sym fault)
