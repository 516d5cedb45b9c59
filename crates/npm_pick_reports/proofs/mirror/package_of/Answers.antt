-- The package has a document, or none.
use Rattle.std.proofs.Common.{◌∙◌, None, Ok, Some, ap, map, refl, string_bytes}
use Rattle.std.proofs.lemmas.Fn.{says_at}
use Rattle.npm_pick_reports.specs.Mirror.{absent, known}
use Rattle.npm_pick_reports.proofs.mirror.package_of.Goals as goal

pub returns-in_ok-lacking_of-in-Ok-Some-clause-found : goal.returns-in_ok-lacking_of-in-Ok-Some-clause-found
returns-in_ok-lacking_of-in-Ok-Some-clause-found g c = known c.in-Ok-Some.packument
    (map (λ key. key.now) c.in_ok-picked-in-Ok-Some.picked.items)
    (says_at g.F.Fn c.load.ensures (c.in-Ok-Some.is ∙ ap Ok c.in-Ok-Some.field-0-is)) refl
    c.in_ok-picked-in-Ok-Some.ensures (rw c.deref.ensures.value at c.in_ok-with_installed-in-Ok-Some.ensures)
    c.in_ok-lacking_of-in-Ok-Some.ensures

pub returns-in_ok-with_installed-in-Ok-None-clause-found : goal.returns-in_ok-with_installed-in-Ok-None-clause-found
returns-in_ok-with_installed-in-Ok-None-clause-found g c =
    absent (says_at g.F.Fn c.load.ensures (c.in-Ok-None.is ∙ ap Ok c.in-Ok-None.field-0-is)) refl
    c.in_ok-with_installed-in-Ok-None.ensures (ap (map string_bytes) c.new.ensures.items)

pub returns-in-Err-clause-failed : goal.returns-in-Err-clause-failed
returns-in-Err-clause-failed g c = (c.args.name.now, refl, says_at g.F.Fn c.load.ensures c.in-Err.is)
