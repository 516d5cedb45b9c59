-- The folder is as long as this, and right if its name is.
use Rattle.std.proofs.Common.{◌∙◌, ◌+◌, ap, arith, length}
use Rattle.npm_packages.proofs.Steps.{place_is, short}
use Rattle.npm_packages.proofs.folder.place_size.Goals as goal

pub returns-then-size-gt-MAX_FOLDER : goal.returns-then-size-gt-MAX_FOLDER
returns-then-size-gt-MAX_FOLDER c = λ folder is sized.
    absurd (omega (arith, short folder is, sized, c.if-size-gt-MAX_FOLDER.true))

pub returns-then-is_place : goal.returns-then-is_place
returns-then-is_place c = λ folder is sized.
    let name = c.args.name.now in
    let place = place_is folder name c.args.size (c.size_before_name.result + length name) c.is_place.result is sized
    (ap (λ n. n + length name) c.size_before_name.ensures) c.is_place.ensures in
    (place.0 ∙ c.if-is_place.true, place.1)

pub returns-else-is_place : goal.returns-else-is_place
returns-else-is_place c = λ folder is sized.
    let name = c.args.name.now in
    let place = place_is folder name c.args.size (c.size_before_name.result + length name) c.is_place.result is sized
    (ap (λ n. n + length name) c.size_before_name.ensures) c.is_place.ensures in
    place.0 ∙ c.if-is_place.false
