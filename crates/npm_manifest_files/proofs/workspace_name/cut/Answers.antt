-- The last `/`, or none.
use Rattle.std.proofs.Common.{refl}
use Rattle.npm_manifest_files.proofs.FileFolders.{no_slash}
use Rattle.npm_manifest_files.proofs.PathParts.{is_above, is_last, nothing_above, whole_last}
use Rattle.npm_manifest_files.proofs.workspace_name.cut.Goals as goal

pub returns-in-Some-clause-above : goal.returns-in-Some-clause-above
returns-in-Some-clause-above c = is_above c.args.path.now c.in-Some.above.now c.in-Some.last.now c.in-Some.ensures.cases

pub returns-in-Some-clause-last : goal.returns-in-Some-clause-last
returns-in-Some-clause-last c = is_last c.args.path.now c.in-Some.above.now c.in-Some.last.now c.in-Some.ensures.cases

pub returns-in-None-clause-above : goal.returns-in-None-clause-above
returns-in-None-clause-above c =
    nothing_above c.args.path.now (no_slash c.args.path.now c.args.path.now 0 refl (λ k more small. c.in-None.ensures.cases k small))

pub returns-in-None-clause-last : goal.returns-in-None-clause-last
returns-in-None-clause-last c =
    whole_last c.args.path.now (no_slash c.args.path.now c.args.path.now 0 refl (λ k more small. c.in-None.ensures.cases k small))
