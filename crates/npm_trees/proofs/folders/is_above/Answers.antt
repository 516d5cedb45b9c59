-- What is above is the next folder, or above that.
use Rattle.std.proofs.Common.{◌≡◌, Some, refl}
use Rattle.npm_trees.specs.Places.{up_of}
use Rattle.npm_trees.specs.Whole.{IsAbove, further, next}
use Rattle.npm_trees.proofs.Walking.{further_up}
use Rattle.npm_trees.proofs.folders.is_above.Goals as goal

pub returns-then-up-above : goal.returns-then-up-above
returns-then-up-above c =
    let there : up_of c.args.places.now c.up.folder ≡ Some c.in-Some.up = cc (c.up_of.ensures, c.in-Some.is) in
    let here : IsAbove c.args.places.now c.up.folder c.args.above = rw c.if-up-above.true at (next c.up.folder c.in-Some.up there) in
    (λ yes. c.up.invariant.0 here, λ is. refl)

pub up-preserved : goal.up-preserved
up-preserved c =
    let there : up_of c.args.places.now c.up.folder ≡ Some c.in-Some.up = cc (c.up_of.ensures, c.in-Some.is) in (
      λ is. c.up.invariant.0 (further c.up.folder c.in-Some.up c.args.above there is),
      λ is. further_up c.args.places.now c.up.folder c.in-Some.up c.args.above there c.if-up-above.false (c.up.invariant.1 is),
    )
