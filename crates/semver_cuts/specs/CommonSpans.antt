-- The intersection of two lists of spans, as a list of spans: that of 0 to 1 and 3 to 5 with 0.5 to 4 is 0.5 to 1 and 3
-- to 4.
use Rattle.std.specs.Prelude.{List, [], ◌∷◌, if◌then◌else◌}
use Rattle.std.specs.List.{flat_map}
use Rattle.std.specs.Ordering.{is_lt}
use Rattle.std.specs.declared.cmp.Ordering.{Ordering}
use Rattle.semver_cuts.specs.declared.cut.Cut.{Cut}
use Rattle.semver_cuts.specs.Cut.{cut_cmp}
use Rattle.semver_cuts.specs.Ends.{Ends, span_between}

-- the greater of two cuts, and the second if they are equal
abbrev pub greater_cut : {T : Type 0} → (T → T → Ordering) → Cut T → Cut T → Cut T
greater_cut cmp one other = if is_lt (cut_cmp cmp other one) then one else other

-- the lesser of two cuts, and the first if they are equal
abbrev pub lesser_cut : {T : Type 0} → (T → T → Ordering) → Cut T → Cut T → Cut T
lesser_cut cmp one other = if is_lt (cut_cmp cmp other one) then other else one

-- from the greater of the two lower ends to the lesser of the two upper ends
abbrev pub common_ends : {T : Type 0} → (T → T → Ordering) → Ends T → Ends T → Ends T
common_ends cmp one other = span_between (greater_cut cmp one.lower other.lower) (lesser_cut cmp one.upper other.upper)

-- the intersection of two spans: one span, or none if no cut lies in both
abbrev pub common_of : {T : Type 0} → (T → T → Ordering) → Ends T → Ends T → List (Ends T)
common_of cmp one other =
    if is_lt (cut_cmp cmp (common_ends cmp one other).lower (common_ends cmp one other).upper)
    then common_ends cmp one other ∷ []
    else []

-- the intersection of one span with each of the others
abbrev pub common_with : {T : Type 0} → (T → T → Ordering) → Ends T → List (Ends T) → List (Ends T)
common_with cmp one = flat_map (common_of cmp one)

-- the intersection of each span of one list with each of the other: those of the first span come first
abbrev pub common_spans : {T : Type 0} → (T → T → Ordering) → List (Ends T) → List (Ends T) → List (Ends T)
common_spans {T} cmp ones others = flat_map (λ (one : Ends T). common_with cmp one others) ones
