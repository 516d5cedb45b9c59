-- Where the spans that end above a cut begin, in a list of merged spans.
use Rattle.std.specs.Prelude.{ℕ, ◌≤◌, List, drop, length, take}
use Rattle.std.specs.List.{AllByRecursion}
use Rattle.std.specs.declared.cmp.Ordering.{Ordering}
use Rattle.semver_cuts.specs.declared.cut.Cut.{Cut}
use Rattle.semver_cuts.specs.Ends.{Ends, IsCutAtMost, IsCutBelow}

-- the spans before the place end at the cut or below, and those from it on end above the cut
pub record IsFirstAbove {T : Type 0} (cmp : T → T → Ordering) (spans : List (Ends T)) (cut : Cut T) (place : ℕ)
    : Type 0 where
  pub within : place ≤ length spans
  pub below : AllByRecursion (λ (s : Ends T). IsCutAtMost cmp s.upper cut) (take place spans)
  pub above : AllByRecursion (λ (s : Ends T). IsCutBelow cmp cut s.upper) (drop place spans)
