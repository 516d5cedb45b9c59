-- One set more, and all of them joined.
use Rattle.std.proofs.Common.{◌∙◌, ◌∷◌, [], ap, append-nil, sym}
use Rattle.std.proofs.lemmas.Result.{IfOk-weaker}
use Rattle.node_semver.specs.Ranges.{RangeContains}
use Rattle.npm_advisories.proofs.Covering.{covered-joined, releases-all, releases-next}
use Rattle.npm_advisories.proofs.covered.covered_by.Goals as goal
use Rattle.npm_advisories.proofs.covered.covered_by.Goals.{in-Some+in_ok-push, in_default}

pub loop-set-preserved : goal.loop-set-preserved
loop-set-preserved c = elim c.match-aligned_span.branch [
  | in-Some+in_ok-push w ↦
      releases-next c.args.sets.now c.loop-set.set-index c.set-item.result c.loop-set.spans.items
      (w.in-Some.span ∷ []) c.match-aligned_span.spans.items c.loop-set-test.true c.set-item.is
      (ap (λ v. v.items) w.spans-is ∙ w.in_ok-push.ensures.items) c.loop-set.invariant
      (rw w.in-Some.is at c.aligned_span.ensures)
  | in_default w ↦
      releases-next c.args.sets.now c.loop-set.set-index c.set-item.result c.loop-set.spans.items []
      c.match-aligned_span.spans.items c.loop-set-test.true c.set-item.is
      (ap (λ v. v.items) w.spans-is ∙ sym (append-nil c.loop-set.spans.items)) c.loop-set.invariant
      (rw w.in_default.is at c.aligned_span.ensures)
]

pub returns : goal.returns
returns c =
    let sets = c.args.sets.now in
    let spans = c.loop-set.spans.items in
    IfOk-weaker c.join.result _ _ (λ joined are. covered-joined (RangeContains sets) spans joined.items are
    (releases-all sets c.loop-set.set-index spans c.loop-set-test.false c.loop-set.invariant)) c.join.ensures
