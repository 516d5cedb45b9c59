-- The advisories are refused.
use Rattle.std.proofs.Common.{◌≡◌, Some, ap, option_map}
use Rattle.serde_json.specs.View.{view}
use Rattle.npm_advisories.specs.Faults.{fault_value}
use Rattle.npm_advisories.specs.LockFaults.{IsFileFaultBeside}
use Rattle.npm_lock_check.specs.Report.{wanted_value}
use Rattle.npm_lock_check.proofs.Auditing.{refused_as}
use Rattle.npm_lock_check.proofs.checks.hits.hits_of.Goals as goal

pub returns-in-Err-Refused-clause-refused : goal.returns-in-Err-Refused-clause-refused
returns-in-Err-Refused-clause-refused c =
    let told : IsFileFaultBeside c.args.wanted.today (view c.args.lock.now) (view c.in-Some.file.now)
    (Some (fault_value c.in-Err-Refused.fault)) =
    rw c.in-Err-Refused.field-0-is at c.in-Err-Refused.ensures.refused in
    let there : (wanted_value c.args.wanted).advisories ≡ Some (view c.in-Some.file.now) =
    ap (option_map (λ file. view file.now)) c.in-Some.is in
    refused_as c.args.wanted.today (view c.args.lock.now) (view c.in-Some.file.now) (wanted_value c.args.wanted).advisories
    (fault_value c.in-Err-Refused.fault) c.no_advisories.result there told c.no_advisories.ensures
