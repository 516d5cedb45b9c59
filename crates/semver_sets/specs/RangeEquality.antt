-- When two ranges are equal: set by set, if their ends are equal cuts.
use Rattle.std.specs.Prelude.{Bool, List, [], ◌∷◌}
use Rattle.std.specs.Cmp.Lexicographic.{pointwise}
use Rattle.semver_cuts.specs.Ends.{AreSameEnds, Ends, are_same_ends}
use Rattle.semver_texts.specs.Comparison.{version_cmp}
use Rattle.semver_texts.specs.Version.{VersionValue}

-- both have the same number of sets, and the sets at each place begin at equal cuts and end at equal cuts, whatever the
-- builds
abbrev pub AreSameCuts : List (Ends VersionValue) → List (Ends VersionValue) → Type 0
AreSameCuts [] [] = Unit {0}
AreSameCuts [] (other ∷ others) = ⊥
AreSameCuts (one ∷ ones) [] = ⊥
AreSameCuts (one ∷ ones) (other ∷ others) = AreSameEnds version_cmp one other × AreSameCuts ones others

-- `true` if both have the same number of sets, with equal cuts at each place: what `==` returns
abbrev pub are_same_cuts : List (Ends VersionValue) → List (Ends VersionValue) → Bool
are_same_cuts = pointwise (are_same_ends version_cmp)
