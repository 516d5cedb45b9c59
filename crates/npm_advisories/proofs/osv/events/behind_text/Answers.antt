-- The cut behind the version, or none where the list ends the fault there, or the text is none.
use Rattle.std.proofs.Common.{◌∙◌, refl, sym}
use Rattle.npm_advisories.specs.Lemmas.Versions.{version-end}
use Rattle.npm_advisories.proofs.osv.events.behind_text.Goals as goal

pub returns-in_ok-to_version-in-Ok : goal.returns-in_ok-to_version-in-Ok
returns-in_ok-to_version-in-Ok c = rw c.in_ok-to_version-in-Ok.ensures.copy (
  (c.in-Ok.version, c.in-Ok.ensures.found, sym c.is_last.ensures ∙ c.if-is_last.false, refl),
  version-end c.args.text.now c.in-Ok.version c.in-Ok.ensures.found,
)

pub returns-in-Err : goal.returns-in-Err
returns-in-Err c = λ cut is. c.in-Err.ensures.only is.0 is.1
