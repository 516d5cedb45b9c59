use Rattle.std.proofs.lemmas.Grind.{common_steps}
use native.Mathlib.Omega.{arith}
use Rattle.std.proofs.Common.{[], ◌++◌, append_assoc, refl, sym}
use Rattle.std.proofs.lemmas.List.{append-nil, drop_all}
use Rattle.semver_cuts.proofs.LoopSteps.{here}
use Rattle.semver_cuts.proofs.algebra.merged.MergedSpans.subtract_from.Goals as goal

pub loop-one-init : goal.loop-one-init
loop-one-init g c =
    record { done = []; gathered = sym (append-nil (g.S.Gather.gathered c.args.into.now)); left = λ later are. are }

pub loop-one-preserved : goal.loop-one-preserved
loop-one-preserved g c =
    let kept = c.loop-one.invariant in
    let more = c.in_ok-add_pieces.ensures in
    let rest = here c.args.ones.now c.loop-one.one-index c.one-item.result c.loop-one-test.true c.one-item.is in
    record {
      done = kept.done ++ more.0;
      gathered = grind (arith, common_steps, append_assoc);
      left = λ later are. rw append_assoc (kept.left (more.0 ++ later) (rw rest (more.0, later, refl, more.1, are)));
    }

pub returns : goal.returns
returns g c =
    let kept = c.loop-one.invariant in
    let ones = c.args.ones.now in
    let others = c.args.self.now.list in
    grind (arith, common_steps, append-nil kept.done, drop_all c.loop-one.one-index ones c.loop-one-test.false)
