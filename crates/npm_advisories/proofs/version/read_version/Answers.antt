-- A text is read as one version, or as none.
use Rattle.npm_texts.specs.InstalledVersions.{bare}
use Rattle.npm_advisories.specs.ReadVersions.{as_text, by_npm, unread}
use Rattle.npm_advisories.proofs.ReadVersions.{only-as_text, only-by_npm, only-unread}
use Rattle.npm_advisories.specs.Lemmas.Versions.{version-end}
use Rattle.npm_advisories.proofs.version.read_version.Goals as goal

pub returns-in-Some-clause-read : goal.returns-in-Some-clause-read
returns-in-Some-clause-read c = by_npm c.in-Some.version c.in-Some.ensures.found

pub returns-in-Some-clause-only : goal.returns-in-Some-clause-only
returns-in-Some-clause-only c = only-by_npm c.args.text.now c.in-Some.version c.in-Some.ensures.found

pub returns-in-Some-clause-end : goal.returns-in-Some-clause-end
returns-in-Some-clause-end c =
    version-end (bare c.args.text.now) c.in-Some.version c.in-Some.ensures.found.read

pub returns-in-Ok-clause-read : goal.returns-in-Ok-clause-read
returns-in-Ok-clause-read c = as_text c.in-Ok.version c.in_default.ensures.none c.in-Ok.ensures.found

pub returns-in-Ok-clause-only : goal.returns-in-Ok-clause-only
returns-in-Ok-clause-only c =
    only-as_text c.args.text.now c.in-Ok.version c.in_default.ensures.none c.in-Ok.ensures.found

pub returns-in-Ok-clause-end : goal.returns-in-Ok-clause-end
returns-in-Ok-clause-end c = version-end c.args.text.now c.in-Ok.version c.in-Ok.ensures.found

pub returns-in-Err-clause-read : goal.returns-in-Err-clause-read
returns-in-Err-clause-read c = unread c.in_default.ensures.none (λ v is. c.in-Err.ensures.only v is)

pub returns-in-Err-clause-only : goal.returns-in-Err-clause-only
returns-in-Err-clause-only c =
    only-unread c.args.text.now c.in_default.ensures.none (λ v is. c.in-Err.ensures.only v is)
