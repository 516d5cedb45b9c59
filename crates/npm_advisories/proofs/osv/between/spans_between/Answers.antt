-- The spans of one start more.
use Rattle.std.proofs.Common.{◌≡◌, ◌<◌, ◌≤◌, ◌∷◌, [], get_or, length, subst, take}
use Rattle.std.proofs.lemmas.List.{take_all, take_more}
use Rattle.npm_advisories.specs.Private.OsvReading.{IsFromStart}
use Rattle.npm_advisories.proofs.OsvBetween.{have-all, have-single}
use Rattle.npm_advisories.specs.Lemmas.Spans.{have-more}
use Rattle.npm_advisories.proofs.osv.between.spans_between.Goals as goal

pub loop-start-preserved : goal.loop-start-preserved
loop-start-preserved c =
    let marks = c.args.marks.now in
    let starts = marks.starts.items in
    let start = c.start-item.result in
    let index = c.loop-start.start-index in
    let same : c.deref-start-items.result.now ≡ starts = c.deref-start-items.ensures.value in
    let lt : index < length starts = subst (λ l. index < length l) same c.loop-start-test.true in
    let at : start ≡ get_or starts index start = subst (λ l. start ≡ get_or l index start) same c.start-item.is in
    let more = c.in_ok-add_spans.ensures in
    rw (take_more starts index start lt, ← at)
    (have-more (IsFromStart marks) (take index starts) (start ∷ []) c.loop-start.spans.items more.0 _
    more.1 c.loop-start.invariant (have-single (IsFromStart marks) start more.0 more.2))

pub returns : goal.returns
returns c =
    let starts = c.args.marks.now.starts.items in
    let index = c.loop-start.start-index in
    let same : c.deref-start-items.result.now ≡ starts = c.deref-start-items.ensures.value in
    let done : length starts ≤ index = subst (λ l. length l ≤ index) same c.loop-start-test.false in
    have-all c.args.marks.now c.loop-start.spans.items (rw (take_all index starts done) at c.loop-start.invariant)
