use Rattle.std.proofs.Common.{rules}
use Rattle.semver_texts.specs.Lemmas.Versions.Prereleases.{prerelease_cmp-lists}
use Rattle.semver_texts.proofs.identifier.order.cmp_prereleases.Goals as goal

pub returns-in-false-false : goal.returns-in-false-false
returns-in-false-false c = search (rules, prerelease_cmp-lists)
