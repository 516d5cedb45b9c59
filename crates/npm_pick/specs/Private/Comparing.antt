-- What private functions say of versions that are compared.
use Rattle.std.specs.Prelude.{◌≡◌, ◌≢◌, ◌⊎◌, ◌++◌, ℕ, List, Option, Some, None}
use Rattle.std.specs.declared.cmp.Ordering.TheVariants.{Less}
use Rattle.serde_json.specs.Data.{Data, Members}
use Rattle.npm_pick.specs.Packument.{Release, releases_among}
use Rattle.npm_pick.specs.Rank.{rank_cmp}
use Rattle.npm_pick.specs.Ranking.{IsBestOrNone, rank_value}
use Rattle.npm_pick.specs.declared.rank.best.Found.{Found}
use Rattle.npm_pick.specs.declared.options.Options.{Options}

-- the best of any releases and of these was found, where the best of the former is given
abbrev pub IsBestWith : (packument : Data) → Options → (range : List ℕ) → (best : Option Found) → List Release
    → Option Found → Type 0
IsBestWith packument options range best releases found = (before : List Release)
    → IsBestOrNone packument options range before best
    → IsBestOrNone packument options range (before ++ releases) found

-- the best of those releases that are done was found; the others are left
pub record IsBestSoFar (packument : Data) (options : Options) (range : List ℕ) (all : List Release) (left : Members)
    (best : Option Found)
    : Type 0 where
  pub done : List Release
  pub parts : all ≡ done ++ releases_among left
  pub found : IsBestOrNone packument options range done best

-- the next one if its rank is higher, or if it is the first
abbrev pub IsBetter : Option Found → Found → Found → Type 0
IsBetter None next better = better ≡ next
IsBetter (Some best) next better =
    ((rank_cmp (rank_value best.rank) (rank_value next.rank) ≡ Less) × (better ≡ next))
    ⊎ ((rank_cmp (rank_value best.rank) (rank_value next.rank) ≢ Less) × (better ≡ best))
