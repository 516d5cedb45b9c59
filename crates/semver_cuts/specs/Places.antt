-- The spans that a list is joined to, kept as places in the list.
use Rattle.std.specs.Prelude.{◌≡◌, ℕ, ◌<◌, List, [], ◌∷◌, get_or, length, map}
use Rattle.std.specs.List.{AllByRecursion}
use Rattle.std.specs.declared.cmp.Ordering.{Ordering}
use Rattle.semver_cuts.specs.declared.cut.Cut.TheVariants.{Start, End}
use Rattle.semver_cuts.specs.Ends.{Ends, span_between}
use Rattle.semver_cuts.specs.SpanLists.{AreApart}
use Rattle.semver_cuts.specs.Joined.{AreJoined, AreRising}

-- the span at a place of a list, and the span of all cuts if the list is shorter
abbrev pub span_at : {T : Type 0} → List (Ends T) → ℕ → Ends T
span_at spans place = get_or spans place (span_between Start End)

-- from where the span at one place begins up to where the span at another ends
abbrev pub span_of_places : {T : Type 0} → List (Ends T) → ℕ × ℕ → Ends T
span_of_places spans pair = span_between (span_at spans pair.0).lower (span_at spans pair.1).upper

-- the spans at these pairs of places, or the list as it stands if there are none: of 2 to 5, 0 to 1 and 4 to 7, those
-- at (1, 1) and (0, 2) are 0 to 1 and 2 to 7
abbrev pub merged_spans : {T : Type 0} → List (Ends T) → List (ℕ × ℕ) → List (Ends T)
merged_spans spans [] = spans
merged_spans spans (pair ∷ pairs) = map (span_of_places spans) (pair ∷ pairs)

-- both places are in the list
abbrev pub AreWithin : {T : Type 0} → List (Ends T) → ℕ × ℕ → Type 0
AreWithin spans pair = (pair.0 < length spans) × (pair.1 < length spans)

-- the places of the spans that a list is joined to; there are none if the list is merged as it stands
pub record IsPlacesOf {T : Type 0} (cmp : T → T → Ordering) (spans : List (Ends T)) (places : List (ℕ × ℕ))
    : Type 0 where
  pub rising : AreRising cmp spans
  pub within : AllByRecursion (AreWithin spans) places
  pub joined : AreJoined cmp spans (merged_spans spans places)
  pub none : AreApart cmp spans → places ≡ []

-- a list of spans, and the spans that it is joined to
pub record MergedSpansValue (T : Type 0) : Type 0 where
  pub list : List (Ends T)
  pub merged : List (Ends T)
