-- One version more, and all of them in order.
use Rattle.std.proofs.Common.{◌∙◌, ◌++◌, append-nil, ap, map, string_bytes, sym}
use Rattle.std.proofs.lemmas.List.{take_all}
use Rattle.std.proofs.lemmas.Result.{IfOk-weaker}
use Rattle.npm_pick.specs.Lemmas.Gathering.{pushed_more, pushed-seen}
use Rattle.npm_pick_reports.proofs.Mirrors.{with_both}
use Rattle.npm_pick_reports.proofs.mirror.both_in_order.Goals as goal

pub loop-version-init : goal.loop-version-init
loop-version-init c = ap (map (λ key. key.now)) c.in_ok-keys.ensures.items ∙ sym (append-nil (map (λ key. key.now) c.args.picked.now))

pub loop-version-preserved : goal.loop-version-preserved
loop-version-preserved c = pushed_more string_bytes c.args.installed.now _ _ _ c.loop-version.version-index
    c.version-item.result c.loop-version-test.true c.version-item.is
    (pushed-seen (λ key. key.now) _ _ _ _ c.in_ok-push.ensures.items c.as_str.ensures.value) c.loop-version.invariant

pub returns : goal.returns
returns c = IfOk-weaker c.copies_of.result _ _ (λ keys same. rw same (with_both _ (map (λ key. key.now) c.args.picked.now)
    (map string_bytes c.args.installed.now) _
    (rw (take_all c.loop-version.version-index c.args.installed.now c.loop-version-test.false) at c.loop-version.invariant)
    (rw c.deref-2.ensures.value c.in_ok-ordered.ensures.ordered)
    (rw c.deref-2.ensures.value (rw c.deref.ensures.value at c.in_ok-ordered.ensures.exact)))) c.copies_of.ensures
