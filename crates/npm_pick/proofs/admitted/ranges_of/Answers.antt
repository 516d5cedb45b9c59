-- One range more.
use Rattle.std.proofs.Common.{◌↔◌, string_bytes}
use Rattle.npm_texts.specs.RangeText.{filled}
use Rattle.npm_pick.specs.Kept.{IsInText}
use Rattle.npm_pick.specs.Private.Keeping.{IsSatisfied}
use Rattle.npm_pick.proofs.SomeTexts.{some_done, some_more}
use Rattle.npm_pick.proofs.admitted.ranges_of.Goals as goal

pub loop-text-preserved : goal.loop-text-preserved
loop-text-preserved c = λ v.
    let one : IsSatisfied c.in_ok-wanted_range.field-0 v
    ↔ IsInText (filled (string_bytes c.text-item.result)) v =
    rw c.as_str.ensures.value at (c.in_ok-wanted_range.ensures v) in
    some_more (λ range. IsSatisfied range v) (λ text. IsInText (filled text) v) string_bytes
    c.args.wanted.now c.loop-text.text-index c.text-item.result c.loop-text.ranges.items c.push.new.self.items
    c.in_ok-wanted_range.field-0 c.loop-text-test.true c.text-item.is one c.in_ok-push.ensures.items
    (c.loop-text.invariant v)

pub returns : goal.returns
returns c = λ v. some_done (λ range. IsSatisfied range v) (λ text. IsInText (filled text) v) string_bytes
    c.args.wanted.now c.loop-text.text-index c.loop-text.ranges.items c.loop-text-test.false (c.loop-text.invariant v)
