use Rattle.std.proofs.Common.{rules}
use Rattle.semver_texts.specs.Lemmas.Versions.Prereleases.{slice_cmp-values}
use Rattle.semver_texts.proofs.identifier.order.cmp_lists.Goals as goal

pub returns : goal.returns
returns c = search (rules, slice_cmp-values)
