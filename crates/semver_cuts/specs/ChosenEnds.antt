-- The ends of the intersection of a list of spans, and which span each comes from if several ends are equal.
use Rattle.std.specs.Prelude.{◌≡◌, List, ◌∷◌, ◌++◌}
use Rattle.std.specs.declared.cmp.Ordering.{Ordering}
use Rattle.std.specs.List.{AllByRecursion}
use Rattle.semver_cuts.specs.declared.cut.Cut.{Cut}
use Rattle.semver_cuts.specs.Ends.{Ends, IsCutAtMost, IsCutBelow}

-- an end of one of the spans: `Before` holds between each earlier end and it, and `After` between each later end and it
pub record IsChosenEnd {T : Type 0} (end : Ends T → Cut T) (Before After : Cut T → Cut T → Type 0)
    (spans : List (Ends T)) (chosen : Cut T) : Type 0 where
  pub before : List (Ends T)
  pub span : Ends T
  pub after : List (Ends T)
  pub parts : spans ≡ before ++ span ∷ after
  pub end_of : end span ≡ chosen
  pub earlier : AllByRecursion (λ (other : Ends T). Before (end other) chosen) before
  pub later : AllByRecursion (λ (other : Ends T). After (end other) chosen) after

-- the last of the greatest lower ends: each earlier one is at most it, and each later one is less
abbrev pub IsLastGreatestLower : {T : Type 0} → (T → T → Ordering) → List (Ends T) → Cut T → Type 0
IsLastGreatestLower {T} cmp spans greatest =
    IsChosenEnd (λ (span : Ends T). span.lower) (λ c d. IsCutAtMost cmp c d) (λ c d. IsCutBelow cmp c d) spans greatest

-- the first of the least upper ends: it is less than each earlier one, and at most each later one
abbrev pub IsFirstLeastUpper : {T : Type 0} → (T → T → Ordering) → List (Ends T) → Cut T → Type 0
IsFirstLeastUpper {T} cmp spans least =
    IsChosenEnd (λ (span : Ends T). span.upper) (λ c d. IsCutBelow cmp d c) (λ c d. IsCutAtMost cmp d c) spans least
