use Rattle.std.proofs.Common.{◌≡◌, ℕ, List, Some}
use Rattle.semver_sets.specs.Comparator.{Comparator}
use Rattle.semver_sets.specs.Merging.{AreSetsOf}
use Rattle.semver_sets.specs.Private.PieceReading.{piece_at, some_seen}
use Rattle.semver_sets.proofs.Ranges.AlternativeLemmas.{Reads, left_length}
use Rattle.semver_sets.proofs.read.read_several.Given as goal

-- the sets so far are those of the alternatives so far
abbrev pub invariant-loop-left : goal.invariant-loop-left
invariant-loop-left l = (text : List ℕ) → (l.first, Some l.others) ≡ piece_at text
    → (done : List (List Comparator)) × Reads text done (some_seen l.left) × AreSetsOf done l.sets

abbrev pub decreases-loop-left : goal.decreases-loop-left
decreases-loop-left l = left_length (some_seen l.left)
