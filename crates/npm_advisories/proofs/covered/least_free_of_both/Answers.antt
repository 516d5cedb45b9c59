-- One span of the others after another.
use Rattle.std.proofs.Common.{◌∙◌, subst, sym}
use Rattle.semver_cuts.specs.Ends.{IsCutAtMost, IsCutBelow}
use Rattle.semver_cuts.specs.Lemmas.Ends.{at_most-from_not_lt, below-from_lt}
use Rattle.semver_texts.specs.Lemmas.Public.{version_total}
use Rattle.node_semver.specs.Cuts.{Before}
use Rattle.node_semver.specs.Versions.{version_cmp}
use Rattle.npm_advisories.specs.Private.Covering.{IsPassed}
use Rattle.npm_advisories.proofs.FreeReleases.{at-found, end-aligned, found-before, next-first, next-past, none-past}
use Rattle.npm_advisories.proofs.FreeReleases.{none-wanted, wanted-all}
use Rattle.npm_advisories.proofs.Results.{same-offer}
use Rattle.npm_advisories.proofs.covered.least_free_of_both.Goals as goal

pub loop-other-init : goal.loop-other-init
loop-other-init c = next-first c.args.covered.now c.args.others.now c.requires.others.merged c.args.from c.requires.from

pub least_free-requires-clause-from : goal.least_free-requires-clause-from
least_free-requires-clause-from c = c.loop-other.invariant.plain

pub returns-in_err-least_free : goal.returns-in_err-least_free
returns-in_err-least_free c = rw c.from_residual.ensures
    (none-wanted c.args.covered.now c.args.others.now c.requires.others.merged c.args.from c.loop-other.other-index
    c.loop-other.next c.loop-other.invariant c.in_err-least_free.ensures)

pub returns-then-lt : goal.returns-then-lt
returns-then-lt c =
    let found = c.in_ok-least_free.field-0 in
    rw (at-found found c.release_at.result c.release_at.ensures)
    (found-before c.args.covered.now c.args.others.now c.requires.others.merged c.args.from c.loop-other.other-index
    c.loop-other.next c.loop-other.invariant found c.in_ok-least_free.ensures c.other-item.result c.loop-other-test.true
    c.other-item.is (subst (IsCutBelow version_cmp (Before found)) c.lower.ensures
    (below-from_lt version_cmp (Before found) c.lower.result.now (sym c.lt.ensures ∙ c.if-lt.true))))

pub release_past-requires : goal.release_past-requires
release_past-requires c = (
  rw c.upper.ensures (end-aligned c.args.others.now c.requires.others c.other-item.result
      (c.loop-other.other-index, c.loop-other-test.true, sym c.other-item.is)),
  c.loop-other.invariant.plain,
)

pub returns-in_err-next : goal.returns-in_err-next
returns-in_err-next c =
    let found = c.in_ok-least_free.field-0 in
    rw c.from_residual-in_err-next.ensures
    (none-past c.args.covered.now c.args.others.now c.requires.others.merged c.args.from c.loop-other.other-index
    c.loop-other.next c.loop-other.invariant found c.in_ok-least_free.ensures c.other-item.result c.loop-other-test.true
    c.other-item.is (subst (λ x. IsCutAtMost version_cmp x (Before found)) c.lower.ensures
    (at_most-from_not_lt version_total (Before found) c.lower.result.now (sym c.lt.ensures ∙ c.if-lt.false))) (sym c.upper.ensures ∙ c.in_err-next.ensures))

pub loop-other-preserved : goal.loop-other-preserved
loop-other-preserved c =
    let found = c.in_ok-least_free.field-0 in
    next-past c.args.covered.now c.args.others.now c.requires.others.merged c.args.from c.loop-other.other-index
    c.loop-other.next c.loop-other.invariant found c.in_ok-least_free.ensures c.other-item.result c.loop-other-test.true
    c.other-item.is (subst (λ x. IsCutAtMost version_cmp x (Before found)) c.lower.ensures
    (at_most-from_not_lt version_total (Before found) c.lower.result.now (sym c.lt.ensures ∙ c.if-lt.false)))
    c.in_ok-next.next (subst (λ cut. IsPassed cut c.loop-other.next c.in_ok-next.next) c.upper.ensures
    c.in_ok-next.ensures)

pub least_free-requires-2-clause-from : goal.least_free-requires-2-clause-from
least_free-requires-2-clause-from c = c.loop-other.invariant.plain

pub returns : goal.returns
returns c =
    same-offer (wanted-all c.args.covered.now c.args.others.now c.requires.others.merged c.args.from
    c.loop-other.other-index c.loop-other.next c.loop-other.invariant c.loop-other-test.false) c.least_free-2.result
    c.least_free-2.ensures
