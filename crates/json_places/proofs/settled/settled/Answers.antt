-- The first paths are all.
use Rattle.std.proofs.Common.{◌≡◌, arith, length, subst}
use Rattle.json_places.specs.Private.FirstPlaces.{ArePlacesOfFirst}
use Rattle.json_places.proofs.Found.{all_places}
use Rattle.json_places.proofs.settled.settled.Goals as goal

pub returns : goal.returns
returns c =
    let all : c.loop-index.index ≡ length c.args.paths.now = omega (arith, c.loop-index-test.false, c.loop-index.auto.index-end) in
    all_places c.args.text.now c.args.paths.now c.loop-index.found.items
    (subst (λ n. ArePlacesOfFirst c.args.text.now c.args.paths.now n c.loop-index.found.items) all c.loop-index.invariant)
