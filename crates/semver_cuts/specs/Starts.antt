-- The number of spans that a list is joined to. It is the number of spans in the list whose lower end no earlier span
-- has, and that no span of the list reaches from below.
use Rattle.std.specs.Prelude.{ℕ, ◌+◌, Bool, ◌&&◌, ◌||◌, not, false, List, [], ◌∷◌, ◌++◌, if◌then◌else◌}
use Rattle.std.specs.Ordering.{is_eq, is_le, is_lt}
use Rattle.std.specs.declared.cmp.Ordering.{Ordering}
use Rattle.semver_cuts.specs.declared.cut.Cut.{Cut}
use Rattle.semver_cuts.specs.Cut.{cut_cmp}
use Rattle.semver_cuts.specs.Ends.{Ends}

-- `true` if one of the spans begins at the cut
abbrev pub begins_at : {T : Type 0} → (T → T → Ordering) → List (Ends T) → Cut T → Bool
begins_at cmp [] cut = false
begins_at cmp (span ∷ spans) cut = is_eq (cut_cmp cmp span.lower cut) || begins_at cmp spans cut

-- `true` if one of the spans reaches the cut from below: it begins below the cut and ends there or above
abbrev pub reaches : {T : Type 0} → (T → T → Ordering) → List (Ends T) → Cut T → Bool
reaches cmp [] cut = false
reaches cmp (span ∷ spans) cut =
    (is_lt (cut_cmp cmp span.lower cut) && is_le (cut_cmp cmp cut span.upper)) || reaches cmp spans cut

-- the number of the later spans that begin where no earlier one does and where no span at all reaches from below
abbrev pub count_of_starts_from : {T : Type 0} → (T → T → Ordering) → List (Ends T) → List (Ends T) → List (Ends T)
    → ℕ
count_of_starts_from cmp all earlier [] = 0
count_of_starts_from cmp all earlier (span ∷ later) =
    (if not (begins_at cmp earlier span.lower) && not (reaches cmp all span.lower) then 1 else 0)
    + count_of_starts_from cmp all (earlier ++ span ∷ []) later

-- the number of spans whose lower end no earlier span has, and that no span reaches from below: 2 for 1 to 2, 4 to 5, 2
-- to 3 and 4 to 6
abbrev pub count_of_starts : {T : Type 0} → (T → T → Ordering) → List (Ends T) → ℕ
count_of_starts cmp spans = count_of_starts_from cmp spans [] spans
