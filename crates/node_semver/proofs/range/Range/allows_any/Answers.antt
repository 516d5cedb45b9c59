use native.Mathlib.Omega.{arith}
use Rattle.std.proofs.Common.{rules}
use Rattle.semver_cuts.specs.Lemmas.CommonSpans.{common_spans-any}
use Rattle.semver_cuts.specs.Lemmas.Sharing.{shares_cut-back}
use Rattle.semver_texts.specs.Lemmas.Public.{version_total}
use Rattle.node_semver.proofs.range.Range.allows_any.Goals as goal

pub returns-clause-shared : goal.returns-clause-shared
returns-clause-shared c = search rules

pub returns-clause-symmetric : goal.returns-clause-symmetric
returns-clause-symmetric c = grind (arith, returns-clause-shared, shares_cut-back)

pub returns-clause-intersection : goal.returns-clause-intersection
returns-clause-intersection c = grind (arith, common_spans-any, version_total, returns-clause-shared)
