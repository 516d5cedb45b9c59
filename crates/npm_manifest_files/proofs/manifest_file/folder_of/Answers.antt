-- The last `/`, or none.
use Rattle.std.proofs.Common.{refl}
use Rattle.npm_manifest_files.proofs.FileFolders.{no_slash}
use Rattle.npm_manifest_files.proofs.PathParts.{is_folder, no_folder}
use Rattle.npm_manifest_files.proofs.manifest_file.folder_of.Goals as goal

pub returns-in-Some : goal.returns-in-Some
returns-in-Some c = is_folder c.args.path.now c.in-Some.folder.now c.in-Some.field-0-1.now c.in-Some.ensures.cases

pub returns-in-None : goal.returns-in-None
returns-in-None c =
    no_folder c.args.path.now (no_slash c.args.path.now c.args.path.now 0 refl (λ k more small. c.in-None.ensures.cases k small))
