use Rattle.std.proofs.lemmas.Grind.{common_steps}
use Rattle.std.proofs.Common.{◌≡◌, ◌<◌, ◌+◌, ◌-◌, arith, length, sym}
use mathlib.Core.Bool.{true≢false}
use Rattle.semver_cuts.specs.Lemmas.Ends.{at_most-from_le, below-from_not_le}
use Rattle.semver_cuts.proofs.Intersections.FirstAbove.{above-from, ended-before}
use Rattle.semver_cuts.proofs.LoopSteps.{here}
use Rattle.semver_cuts.proofs.algebra.near.is_first_above.Goals as goal

pub returns-then-place-spans : goal.returns-then-place-spans
returns-then-place-spans g c = λ true. absurd (true≢false (sym true))

pub returns-then-place-eq0 : goal.returns-then-place-eq0
returns-then-place-eq0 g c = λ true.
    let spans = c.args.spans.now in
    let span = c.index-spans-place.result in
    let low : c.args.place < length spans = omega arith in
    let at = here spans c.args.place span low c.index-spans-place.is in
    let above = above-from g.met.T.Ord.total spans c.requires c.args.cut.now c.args.place span low at in
    grind (arith, common_steps, above, below-from_not_le g.met.T.Ord.total)

pub returns : goal.returns
returns g c = λ true.
    let spans = c.args.spans.now in
    let low : c.args.place < length spans = omega arith in
    let before : c.args.place - 1 < length spans = omega arith in
    let next : (c.args.place - 1) + 1 ≡ c.args.place = omega arith in
    let at = here spans c.args.place c.index-spans-place.result low c.index-spans-place.is in
    let last = here spans (c.args.place - 1) c.index-spans-place-2.result before c.index-spans-place-2.is in
    let above = above-from g.met.T.Ord.total spans c.requires c.args.cut.now c.args.place _ low at in
    let below = ended-before g.met.T.Ord.total spans c.requires c.args.cut.now (c.args.place - 1) _ before last in
    grind (arith, common_steps, above, below, below-from_not_le g.met.T.Ord.total, at_most-from_le g.T.Ord.cmp)
