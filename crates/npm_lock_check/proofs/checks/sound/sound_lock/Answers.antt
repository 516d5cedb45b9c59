-- There is a fault, so a place is found for it.
use Rattle.std.proofs.Common.{◌≡◌, ◌∙◌, Err, None, Some, ap}
use Rattle.serde_json.specs.View.{view}
use Rattle.npm_lock.specs.VersionOne.{any_fault}
use Rattle.npm_packages.specs.Faults.{lock_fault}
use Rattle.npm_lock_check.proofs.Auditing.{is_refused}
use Rattle.npm_lock_check.proofs.checks.sound.sound_lock.Goals as goal

pub unwrap_err-requires : goal.unwrap_err-requires
unwrap_err-requires c =
    let told : lock_fault (view c.args.lock.now) ≡ Some c.in-Err-Refused.field-0-0 =
    (c.of.ensures.refused c.in-Err-Refused.field-0-0).0
    (c.in-Err-Refused.is ∙ ap Err c.in-Err-Refused.field-0-is) in
    let fault : any_fault (view c.args.lock.now) None ≡ Some c.in-Err-Refused.field-0-0 = rw c.requires told in
    is_refused c.refuse.result (any_fault (view c.args.lock.now) None) c.in-Err-Refused.field-0-0 fault
    c.refuse.ensures.sound
