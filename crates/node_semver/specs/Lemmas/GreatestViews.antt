-- What the private functions compute that look for the best version of a list. The best is the last one in an order:
-- the order of precedence for the greatest version, and its reverse for the least.
use Rattle.std.specs.Prelude.{◌≡◌, ◌⊎◌, Bool, true, false, List, Option, Some, None}
use Rattle.std.specs.declared.cmp.Ordering.{Ordering}
use Rattle.std.specs.declared.cmp.Ordering.TheVariants.{Less}
use Rattle.semver_texts.specs.Comparison.{version_cmp}
use Rattle.semver_texts.specs.Version.{VersionValue}
use Rattle.node_semver.specs.Greatest.{IsFirstBest, IsNoneIn}

-- an order of versions
abbrev pub Order : Type 0
Order = VersionValue → VersionValue → Ordering

-- the reverse of the order of precedence
abbrev pub downward : Order
downward v w = version_cmp w v

-- the order of precedence, which is upward, or its reverse
abbrev pub order_of : Bool → Order
order_of true = version_cmp
order_of false = downward

-- the version comes after the best so far, or there is none so far
abbrev pub IsBetter : Order → Option VersionValue → VersionValue → Type 0
IsBetter order None v = Unit {0}
IsBetter order (Some best) v = order best v ≡ Less

-- the version if it is better than the best so far and wanted, else the best so far
abbrev pub IsBetterOf : Order → (VersionValue → Type 0) → Option VersionValue → VersionValue → Option VersionValue
    → Type 0
IsBetterOf order Wanted best v better =
    (IsBetter order best v × Wanted v × (better ≡ Some v)) ⊎ ((¬ (IsBetter order best v × Wanted v)) × (better ≡ best))

-- the best version of the list that is wanted (of equal ones the first), or none if none is wanted
abbrev pub IsBestOrNone : Order → (VersionValue → Type 0) → List VersionValue → Option VersionValue → Type 0
IsBestOrNone order Wanted versions None = IsNoneIn Wanted versions
IsBestOrNone order Wanted versions (Some best) =
    IsFirstBest (λ (v : VersionValue) (w : VersionValue). order w v ≡ Less) Wanted versions best
