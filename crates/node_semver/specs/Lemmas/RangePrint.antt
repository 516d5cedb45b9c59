-- The text of ranges in the pieces in which it is written.
use native.Mathlib.Omega.{arith}
use Rattle.std.proofs.Common.{◌≡◌, ℕ, List, [], ◌∷◌, ◌++◌, codes, refl, append-nil, flat_map}
use Rattle.semver_cuts.specs.Ends.{Ends}
use Rattle.semver_sets.specs.RangePrint.{range_text, set_text}
use Rattle.semver_texts.specs.Version.{VersionValue}

-- a set after `||`
abbrev pub barred_text : Ends VersionValue → List ℕ
barred_text set = codes "||" ++ set_text set

-- the first set, and each other after `||`
abbrev pub led_sets : List (Ends VersionValue) → List ℕ
led_sets [] = []
led_sets (set ∷ rest) = set_text set ++ flat_map barred_text rest

pub led_sets-range : (sets : List (Ends VersionValue)) → led_sets sets ≡ range_text sets
led_sets-range [] = refl
led_sets-range (set ∷ []) = append-nil (set_text set)
led_sets-range (set ∷ next ∷ rest) = grind (arith, led_sets-range (next ∷ rest))
