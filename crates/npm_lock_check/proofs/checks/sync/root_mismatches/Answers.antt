-- The manifest of the root is refused.
use Rattle.std.proofs.Common.{◌≡◌, ◌∙◌, Some, ap, Err, inl, refl}
use Rattle.serde_json.specs.View.{view}
use Rattle.npm_lock.specs.Mismatches.{manifest_fault}
use Rattle.npm_lock_check.proofs.checks.sync.root_mismatches.Goals as goal

pub returns-in-Err-Refused-clause-refused : goal.returns-in-Err-Refused-clause-refused
returns-in-Err-Refused-clause-refused c =
    let told : manifest_fault (view c.args.manifest.now) ≡ Some c.in-Err-Refused.fault =
    (c.mismatches_of.ensures.refused c.in-Err-Refused.fault).0
    (c.in-Err-Refused.is ∙ ap Err c.in-Err-Refused.field-0-is) in
    inl (c.in-Err-Refused.fault, refl, told)
