-- What the private functions compute that look at each version of an array.
use Rattle.std.specs.Prelude.{◌≡◌, ◌⊎◌, ℕ, List, length, Option, Some, None}
use Rattle.std.specs.Option.{option_map}
use Rattle.std.specs.declared.cmp.Ordering.TheVariants.{Less}
use Rattle.semver_texts.specs.Version.{VersionValue}
use Rattle.node_semver.specs.Greatest.{IsFirstBest, IsNoneIn}
use Rattle.node_semver.specs.Lemmas.GreatestViews.{IsBetter, Order}

-- the version and its place if it comes after the best so far and is wanted, or else the best
abbrev pub IsBetterAt : Order → (VersionValue → Type 0) → Option (ℕ × VersionValue) → ℕ → VersionValue
    → Option (ℕ × VersionValue) → Type 0
IsBetterAt order Wanted best place v better =
    (IsBetter order (option_map (λ b. b.1) best) v × Wanted v × (better ≡ Some (place, v)))
    ⊎ ((¬ (IsBetter order (option_map (λ b. b.1) best) v × Wanted v)) × (better ≡ best))

-- the best with its place, or none where none of them is wanted
abbrev pub IsBestAtOrNone : Order → (VersionValue → Type 0) → List VersionValue → Option (ℕ × VersionValue) → Type 0
IsBestAtOrNone order Wanted versions None = IsNoneIn Wanted versions
IsBestAtOrNone order Wanted versions (Some best) =
    (first : IsFirstBest (λ (v : VersionValue) (w : VersionValue). order w v ≡ Less) Wanted versions best.1)
    × (length first.before ≡ best.0)
