-- The span up to the next end and the limit, or none.
use Rattle.std.proofs.Common.{◌∙◌, ◌∷◌, [], append-nil, sym}
use Rattle.semver_cuts.specs.Lemmas.Ends.{at_most-from_not_lt, below-from_lt}
use Rattle.semver_texts.specs.Lemmas.Public.{version_total}
use Rattle.node_semver.specs.Versions.{version_cmp}
use Rattle.npm_advisories.proofs.OsvBetween.{have-limited, have-unlimited}
use Rattle.npm_advisories.proofs.osv.between.add_span.Goals as goal

pub returns-in_ok-push : goal.returns-in_ok-push
returns-in_ok-push c = (
  c.between.result ∷ [],
  c.in_ok-push.ensures.items,
  rw (c.between.ensures, c.in_ok-copy_of.ensures, c.in_ok-copy_of-2.ensures)
      (have-limited c.args.from.now c.args.end.now c.args.limit.now c.lesser-upper.result.now c.lesser-upper.ensures
      (below-from_lt version_cmp c.args.from.now c.lesser-upper.result.now (sym c.lt.ensures ∙ c.if-lt.true)) c.requires.0
      c.requires.1 c.requires.2),
)

pub returns-else-lt : goal.returns-else-lt
returns-else-lt c = (
  [],
  sym (append-nil c.args.spans.now.items),
  have-unlimited c.args.from.now c.args.end.now c.args.limit.now c.lesser-upper.result.now c.lesser-upper.ensures
      (at_most-from_not_lt version_total c.args.from.now c.lesser-upper.result.now (sym c.lt.ensures ∙ c.if-lt.false)),
)
