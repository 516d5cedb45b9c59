-- What the sets of a range always hold.
use native.Mathlib.Omega.{arith}
use Rattle.std.proofs.Common.{[], ◌∷◌}
use Rattle.semver_sets.specs.Merging.{all_cuts}
use Rattle.semver_sets.specs.RangeSets.{IsRangeValue}

pub all_cuts_bounded : IsRangeValue (all_cuts ∷ [])
all_cuts_bounded = grind arith
