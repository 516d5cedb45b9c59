-- The manifest is refused, or has no fault.
use Rattle.std.proofs.Common.{◌∙◌, Err, ap}
use Rattle.serde_json.specs.View.{view}
use Rattle.npm_lock.specs.Mismatches.{manifest_fault}
use Rattle.npm_lock_check.proofs.LinkedManifests.{no_fault}
use Rattle.npm_lock_check.proofs.checks.sync.linked_mismatches.Goals as goal

pub no_linked-requires : goal.no_linked-requires
no_linked-requires c = (c.mismatches_of.ensures.refused c.in-Err-Refused.fault).0
    (c.in-Err-Refused.is ∙ ap Err c.in-Err-Refused.field-0-is)

pub returns-in-Ok-clause-sound : goal.returns-in-Ok-clause-sound
returns-in-Ok-clause-sound c = no_fault (manifest_fault (view c.args.one.now.manifest)) c.mismatches_of.result
    c.in-Ok.mismatches c.mismatches_of.ensures.refused c.in-Ok.is
