use Rattle.std.proofs.lemmas.Grind.{common_steps}
use Rattle.std.proofs.Common.{arith}
use Rattle.semver_cuts.proofs.Joining.JoinedPlaces.{itself-kept, next-done, next-left, next-rising}
use Rattle.semver_cuts.proofs.Joining.JoinedPlaces.{within-at}
use Rattle.semver_cuts.proofs.algebra.joined.taken_at.Goals as goal

pub loop-begins-init : goal.loop-begins-init
loop-begins-init g c = grind (arith, common_steps, itself-kept g.met.T.Ord.total c.args.spans.now)

pub take_between-requires-clause-begins : goal.take_between-requires-clause-begins
take_between-requires-clause-begins g c =
    let low = within-at g.T.Ord.cmp c.args.spans.now c.args.places.now c.loop-begins.begins-index (0, 0) in
    omega (arith, (low c.requires.places.within c.loop-begins-test.true).0, c.loop-begins.auto.spans)

pub take_between-requires-clause-ends : goal.take_between-requires-clause-ends
take_between-requires-clause-ends g c =
    let low = within-at g.T.Ord.cmp c.args.spans.now c.args.places.now c.loop-begins.begins-index (0, 0) in
    omega (arith, (low c.requires.places.within c.loop-begins-test.true).1, c.loop-begins.auto.spans)

pub take_between-requires-clause-rising : goal.take_between-requires-clause-rising
take_between-requires-clause-rising g c =
    next-rising g.met.T.Ord.total c.args.spans.now c.loop-begins.spans c.args.places.now
    c.loop-begins.begins-index (0, 0)
    c.requires.some c.requires.places.joined.merged c.loop-begins-test.true c.loop-begins.invariant.left

pub loop-begins-preserved : goal.loop-begins-preserved
loop-begins-preserved g c =
    grind (
      arith,
      common_steps,
      next-left g.met.T.Ord.total c.args.spans.now c.loop-begins.spans c.args.places.now
          c.loop-begins.begins-index (0, 0) c.requires.some c.requires.places.joined.merged c.loop-begins-test.true
          c.loop-begins.invariant.left c.take_between.new.spans c.take_between.ensures.lowers
          c.take_between.ensures.uppers,
      next-done g.met.T.Ord.total c.args.spans.now c.loop-begins.spans
          c.args.places.now c.loop-begins.begins-index (0, 0) c.requires.some c.requires.places.joined.merged
          c.loop-begins-test.true c.loop-begins.invariant.left c.loop-begins.joined.items c.take_between.result
          c.take_between.ensures.span,
    )
