-- The lock file is refused with its fault.
use Rattle.std.proofs.Common.{◌≡◌, ◌∙◌, Err, Some, ap, sym}
use Rattle.serde_json.specs.View.{view}
use Rattle.npm_packages.specs.Faults.{lock_fault}
use Rattle.npm_advisories.proofs.lock.installed_in.Goals as goal

pub returns-in-Err-Refused-clause-refused : goal.returns-in-Err-Refused-clause-refused
returns-in-Err-Refused-clause-refused c = λ today file.
    let told : lock_fault (view c.args.lock.now) ≡ Some c.in-Err-Refused.fault =
    (c.of.ensures.refused c.in-Err-Refused.fault).0
    (c.in-Err-Refused.is ∙ ap Err c.in-Err-Refused.field-0-is) in
    told ∙ ap Some (sym c.in-Err-Refused.fault-is)
