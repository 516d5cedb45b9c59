-- Spans joined so that no two touch: 2 to 5, 0 to 1 and 4 to 7 are joined to 0 to 1 and 2 to 7.
use Rattle.std.specs.Prelude.{◌↔◌, List, [], ◌∷◌}
use Rattle.std.specs.List.{AllByRecursion}
use Rattle.std.specs.declared.cmp.Ordering.{Ordering}
use Rattle.semver_cuts.specs.declared.cut.Cut.{Cut}
use Rattle.semver_cuts.specs.Ends.{AreSameEnds, Ends, IsCutBelow}
use Rattle.semver_cuts.specs.SpanLists.{AreApart, IsInSome}
use Rattle.semver_cuts.specs.Difference.{IsFirstAt}

-- each span begins below where it ends, so it contains a cut
abbrev pub AreRising : {T : Type 0} → (T → T → Ordering) → List (Ends T) → Type 0
AreRising {T} cmp spans = AllByRecursion (λ (span : Ends T). IsCutBelow cmp span.lower span.upper) spans

-- the spans ascend, with a cut between each and the next: 1 to 2 and 3 to 4, and not 1 to 2 and 2 to 4
pub record AreMerged {T : Type 0} (cmp : T → T → Ordering) (spans : List (Ends T)) : Type 0 where
  pub rising : AreRising cmp spans
  pub apart : AreApart cmp spans

-- merged spans with the cuts of a list. Each end is that of the first span of the list that has an end at this cut
pub record AreJoined {T : Type 0} (cmp : T → T → Ordering) (spans joined : List (Ends T)) : Type 0 where
  pub merged : AreMerged cmp joined
  pub cuts : (cut : Cut T) → IsInSome cmp joined cut ↔ IsInSome cmp spans cut
  pub lowers : AllByRecursion (λ (span : Ends T). IsFirstAt cmp (λ (s : Ends T). s.lower) spans span.lower) joined
  pub uppers : AllByRecursion (λ (span : Ends T). IsFirstAt cmp (λ (s : Ends T). s.upper) spans span.upper) joined

-- two lists have the same spans in the same order, even if equal cuts can be told apart in another way
abbrev pub AreSameSpans : {T : Type 0} → (T → T → Ordering) → List (Ends T) → List (Ends T) → Type 0
AreSameSpans cmp [] [] = Unit {0}
AreSameSpans cmp (one ∷ ones) (other ∷ others) = AreSameEnds cmp one other × AreSameSpans cmp ones others
AreSameSpans cmp [] (other ∷ others) = ⊥
AreSameSpans cmp (one ∷ ones) [] = ⊥
