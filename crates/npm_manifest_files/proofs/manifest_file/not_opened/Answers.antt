-- The folder was copied.
use Rattle.std.proofs.Common.{inl, refl}
use Rattle.npm_manifest_files.proofs.manifest_file.not_opened.Goals as goal

pub returns-in-Ok : goal.returns-in-Ok
returns-in-Ok c = inl (record { text = c.in-Ok.text }, c.in-Ok.ensures.ok, refl)
