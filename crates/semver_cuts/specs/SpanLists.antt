-- Lists of spans: the cuts that lie in every span of a list, and the cuts that lie in some span of it.
use Rattle.std.specs.Prelude.{◌⊎◌, List, [], ◌∷◌}
use Rattle.std.specs.declared.cmp.Ordering.{Ordering}
use Rattle.std.specs.List.{AllByRecursion}
use Rattle.semver_cuts.specs.declared.cut.Cut.{Cut}
use Rattle.semver_cuts.specs.Ends.{Ends, IsCutBelow, IsInSpan}

-- `P` holds of at least one element of the list
abbrev pub AnyByRecursion : {X : Type 0} → (X → Type 0) → List X → Type 0
AnyByRecursion P [] = ⊥
AnyByRecursion P (x ∷ xs) = P x ⊎ AnyByRecursion P xs

-- the cut lies in each of the spans: `Before 3` lies in 1 to 4 and in 3 to 5
abbrev pub IsInEvery : {T : Type 0} → (T → T → Ordering) → List (Ends T) → Cut T → Type 0
IsInEvery {T} cmp spans cut = AllByRecursion (λ (span : Ends T). IsInSpan cmp span cut) spans

-- some cut lies in each of the spans: `Before 2` lies in 1 to 3 and in 2 to 5, and none in both 1 to 2 and 3 to 5
abbrev pub HasCutInEvery : {T : Type 0} → (T → T → Ordering) → List (Ends T) → Type 0
HasCutInEvery {T} cmp spans = (cut : Cut T) × IsInEvery cmp spans cut

-- the cut lies in at least one of the spans: `Before 2` and `Before 5` lie in some span of 1 to 3 and 4 to 6
abbrev pub IsInSome : {T : Type 0} → (T → T → Ordering) → List (Ends T) → Cut T → Type 0
IsInSome {T} cmp spans cut = AnyByRecursion (λ (span : Ends T). IsInSpan cmp span cut) spans

-- each cut of the first span lies in the second: the cuts of 2 to 3 lie in 1 to 3
abbrev pub IsWithin : {T : Type 0} → (T → T → Ordering) → Ends T → Ends T → Type 0
IsWithin {T} cmp one other = (cut : Cut T) → IsInSpan cmp one cut → IsInSpan cmp other cut

-- each span ends below where the next one begins: 1 to 2 and 3 to 4, and not 1 to 2 and 2 to 4
abbrev pub AreApart : {T : Type 0} → (T → T → Ordering) → List (Ends T) → Type 0
AreApart cmp [] = Unit {0}
AreApart cmp (span ∷ []) = Unit {0}
AreApart cmp (span ∷ next ∷ spans) = IsCutBelow cmp span.upper next.lower × AreApart cmp (next ∷ spans)
