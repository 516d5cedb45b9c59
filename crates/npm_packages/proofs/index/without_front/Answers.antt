-- What is above ends with its last part.
use Rattle.std.proofs.Common.{◌≡◌, ◌≢◌, ◌++◌, List, ℕ, None, Option, Some, refl}
use Rattle.std.specs.Option.{IsSome, MatchOption}
use denote.Ref.{Bor}
use Rattle.npm_packages.proofs.Fronts.{front_of_last}
use Rattle.npm_packages.proofs.index.without_front.Goals as goal

is_there : (above part : List ℕ) (r : Option (Bor (List ℕ)))
    → MatchOption r ((front : List ℕ) → above ≢ front ++ part) (λ front. above ≡ front.now ++ part)
    → (front : List ℕ) × (above ≡ front ++ part) → IsSome r
is_there above part None none is = absurd (none is.0 is.1)
is_there above part (Some front) is_front is = refl

pub unwrap-front-requires : goal.unwrap-front-requires
unwrap-front-requires c = is_there c.args.above.now c.args.part.now c.front_of.result c.front_of.ensures
    (front_of_last c.args.above.now c.args.part.now c.requires.0)
