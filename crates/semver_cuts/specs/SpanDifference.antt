-- The part of one span outside another: a piece below the other and a piece above it. 1 to 9 outside 3 to 5 is 1 to 3
-- and 5 to 9.
use Rattle.std.specs.Prelude.{Bool, List, [], ◌∷◌, if◌then◌else◌}
use Rattle.std.specs.Ordering.{is_lt}
use Rattle.std.specs.declared.cmp.Ordering.{Ordering}
use Rattle.semver_cuts.specs.declared.cut.Cut.{Cut}
use Rattle.semver_cuts.specs.Cut.{cut_cmp}
use Rattle.semver_cuts.specs.Ends.{Ends, span_between}
use Rattle.semver_cuts.specs.CommonSpans.{common_ends}

-- the span from one cut up to another, if a cut lies there
abbrev pub span_if_any : {T : Type 0} → (T → T → Ordering) → Cut T → Cut T → List (Ends T)
span_if_any cmp lower upper = if is_lt (cut_cmp cmp lower upper) then span_between lower upper ∷ [] else []

-- the two spans share a cut: `true` for 1 to 3 and 2 to 4, `false` for 1 to 2 and 2 to 4
abbrev pub spans_share : {T : Type 0} → (T → T → Ordering) → Ends T → Ends T → Bool
spans_share cmp one other =
    is_lt (cut_cmp cmp (common_ends cmp one other).lower (common_ends cmp one other).upper)

-- the piece of the first span below the second, or the whole first span if they share no cut
abbrev pub piece_below : {T : Type 0} → (T → T → Ordering) → Ends T → Ends T → List (Ends T)
piece_below cmp one other = if spans_share cmp one other then span_if_any cmp one.lower other.lower else one ∷ []

-- the piece of the first span above the second, or nothing if they share no cut
abbrev pub piece_above : {T : Type 0} → (T → T → Ordering) → Ends T → Ends T → List (Ends T)
piece_above cmp one other = if spans_share cmp one other then span_if_any cmp other.upper one.upper else []
