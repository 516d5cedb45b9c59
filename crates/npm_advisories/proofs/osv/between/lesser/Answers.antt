-- The end is not after the limit.
use Rattle.std.proofs.Common.{◌∙◌, inr, refl, sym}
use Rattle.semver_cuts.specs.Lemmas.Ends.{at_most-from_not_lt}
use Rattle.semver_texts.specs.Lemmas.Public.{version_total}
use Rattle.npm_advisories.proofs.osv.between.lesser.Goals as goal

pub returns-else-lt : goal.returns-else-lt
returns-else-lt c = inr (
  refl,
  at_most-from_not_lt version_total c.args.limit.now c.args.end.now (sym c.lt.ensures ∙ c.if-lt.false),
)
