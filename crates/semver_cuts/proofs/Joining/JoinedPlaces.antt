-- Merged spans kept as places in a list: how a sorted list gives them, and the span at each pair of places.
use Rattle.std.proofs.Common.{◌≡◌, ◌≢◌, ℕ, zero, suc, ◌+◌, ◌<◌, List, [], ◌∷◌, ◌++◌, Ordering, drop, get_or}
use Rattle.std.proofs.Common.{length, map, refl, sym, ap, subst, inl, inr, arith, length-append}
use Rattle.std.proofs.Common.{◌==◌, Bool, false, true}
use Rattle.std.specs.List.{AllByRecursion}
use Rattle.std.specs.Cmp.{IsTotalOrder}
use Rattle.std.proofs.lemmas.List.{append_assoc, drop-map, drop_more, get_or_at, length-map}
use Rattle.semver_cuts.specs.declared.cut.Cut.{Cut}
use Rattle.semver_cuts.specs.SpanLists.{AreApart}
use Rattle.semver_cuts.specs.Ends.{Ends, IsCutAtMost, IsCutBelow}
use Rattle.semver_cuts.specs.Joined.{AreJoined, AreMerged, AreRising}
use Rattle.semver_cuts.specs.Places.{AreWithin, IsPlacesOf, merged_spans, span_at, span_of_places}
use Rattle.semver_cuts.specs.Private.Placed.{AreJoinedAt, AreSorted, PlacedSpan, placed_from}
use Rattle.semver_cuts.specs.Lemmas.Apart.{merged-drop}
use Rattle.semver_cuts.specs.Lemmas.Joined.{merged-ascending}
use Rattle.semver_cuts.specs.Lemmas.Ends.{at_most_refl, below_irrefl}
use Rattle.semver_cuts.proofs.Lists.Elements.{all-among}
use Rattle.semver_cuts.proofs.Joining.JoinedRuns.{AreEntries, In, IsRun, entries-last, goes-on, grown-run, kept-run}
use Rattle.semver_cuts.proofs.Joining.JoinedRuns.{starts}
use Rattle.semver_cuts.proofs.Joining.JoinedRuns.{starts-run}
use Rattle.semver_cuts.proofs.Joining.JoinedSpans.{all-in, all-in_order, first-joined, first-run}
use Rattle.semver_cuts.proofs.Joining.PlacedOrder.{AreInOrder, EndsLater, EndsNoLater, Tested}
use Rattle.semver_cuts.proofs.Walks.{first-cut}

-- ---- the places that a sorted list gives

-- the span is the one at its place
abbrev pub IsPlaced : {T : Type 0} → List (Ends T) → PlacedSpan T → Type 0
IsPlaced spans p = (p.place < length spans) × (span_at spans p.place ≡ p.span)

pub placed-in : {T : Type 0} (front spans : List (Ends T)) (n : ℕ) → length front ≡ n
    → AllByRecursion (IsPlaced (front ++ spans)) (placed_from n spans)
placed-in front [] n e = tt
placed-in front (span ∷ spans) n e =
    grind (arith, append_assoc, length-append, get_or_at, placed-in (front ++ span ∷ []) spans (n + 1))

-- ---- joining the spans along the sorted list

module _ {T : Type 0} {cmp : T → T → Ordering} (o : IsTotalOrder cmp) (spans : List (Ends T))
    (order : List (PlacedSpan T)) (s : AreSorted cmp spans order) where
  -- the pairs of places so far, where a run from the span at `begun` up to that at `place` is not ended yet
  pub record IsRunning (pairs : List (ℕ × ℕ)) (begun place : ℕ) (upper : Cut T) (later : List (PlacedSpan T))
      : Type 0 where
    pub run : IsRun o spans order s (span_at spans begun).lower upper place later
    pub all : AllByRecursion (In o spans order s) later
    pub ascends : AreInOrder cmp later
    pub begins : begun < length spans
    pub ends : (place < length spans) × ((span_at spans place).upper ≡ upper)
    pub left : (ps : List (ℕ × ℕ)) → AllByRecursion (AreWithin spans) ps
        → AreEntries o spans order s (span_at spans begun).lower upper later (map (span_of_places spans) ps)
        → AreJoinedAt cmp spans (pairs ++ ps)

  is-placed : (p : PlacedSpan T) → In o spans order s p → IsPlaced spans p
  is-placed p is = all-among (IsPlaced spans) (placed_from 0 spans) p (placed-in [] spans 0 refl) is

  -- before the loop
  pub running-first : (first : PlacedSpan T) (later : List (PlacedSpan T)) → order ≡ first ∷ later
      → IsRunning [] first.place first.place first.span.upper later
  running-first first later e =
      let all = subst (AllByRecursion (In o spans order s)) e (all-in o spans order s) in
      let at = is-placed first all.0 in
      let run = first-run o spans order s first later e in
      grind (arith, first-joined o spans order s first later e, all-in_order o spans order s)

  module _ (pairs : List (ℕ × ℕ)) (begun place : ℕ) (upper : Cut T) where
    -- after the last span
    pub running-over : IsRunning pairs begun place upper [] → AreJoinedAt cmp spans (pairs ++ (begun, place) ∷ [])
    running-over is = grind (arith, entries-last o spans order s (span_at spans begun).lower upper place is.run)

    module _ (next : PlacedSpan T) (later : List (PlacedSpan T)) (is : IsRunning pairs begun place upper (next ∷ later))
      where
        at : IsPlaced spans next
        at = is-placed next is.all.0

        -- the next span begins above the end of the run
        pub running-next : IsCutBelow cmp upper next.span.lower
            → IsRunning (pairs ++ (begun, place) ∷ []) next.place next.place next.span.upper later
        running-next gap =
            let run = starts-run o spans order s _ upper place next later is.run is.all is.ascends gap in
            let more = starts o spans order s _ upper place next later is.run is.all is.ascends gap in
            record {
              run = rw at.1 run;
              all = is.all.1;
              ascends = is.ascends.1;
              begins = at.0;
              ends = (at.0, ap (λ (s : Ends T). s.upper) at.1);
              left = λ ps within are. grind (
                arith,
                append_assoc,
                is.left,
                at,
                is.ends,
                more
                    (map (span_of_places spans) ps),
              );
            }

        module _ (touches : IsCutAtMost cmp next.span.lower upper) where
          -- it begins there or below, and ends later
          pub running-longer : EndsLater o upper place next → IsRunning pairs begun next.place next.span.upper later
          running-longer longer =
              let run = grown-run o spans order s _ upper place next later is.run is.all is.ascends longer in
              let more = goes-on o spans order s _ upper place next later is.run is.all is.ascends touches in
              record {
                run = run;
                all = is.all.1;
                ascends = is.ascends.1;
                begins = is.begins;
                ends = (at.0, ap (λ (s : Ends T). s.upper) at.1);
                left = λ ps within are. is.left ps within (more next.span.upper (grind arith)
                    (at_most_refl o next.span.upper) (inr refl) _ are);
              }

          -- or does not end later
          pub running-same : EndsNoLater o upper place next → IsRunning pairs begun place upper later
          running-same no_later =
              let run = kept-run o spans order s _ upper place next later is.run is.all is.ascends no_later in
              let more = goes-on o spans order s _ upper place next later is.run is.all is.ascends touches in
              record {
                run = run;
                all = is.all.1;
                ascends = is.ascends.1;
                begins = is.begins;
                ends = is.ends;
                left = λ ps within are. is.left ps within (more upper (at_most_refl o upper) (grind arith) (inl refl) _
                    are);
              }

  -- the same state by other names
  pub running-moved : (pairs pairs' : List (ℕ × ℕ)) (begun begun' place place' : ℕ) (upper upper' : Cut T)
      (later later' : List (PlacedSpan T)) → pairs ≡ pairs' → begun ≡ begun' → place ≡ place' → upper ≡ upper'
      → later ≡ later' → IsRunning pairs begun place upper later → IsRunning pairs' begun' place' upper' later'
  running-moved pairs pairs' begun begun' place place' upper upper' later later' e f h u l is = grind arith

module _ {T : Type 0} (cmp : T → T → Ordering) (spans : List (Ends T)) where
  -- the merged spans, if there are places
  pub some-map : (pairs : List (ℕ × ℕ)) → pairs ≢ [] → merged_spans spans pairs ≡ map (span_of_places spans) pairs
  some-map pairs h1 = grind arith

module _ {T : Type 0} {cmp : T → T → Ordering} (o : IsTotalOrder cmp) where
  none-apart : (spans : List (Ends T)) → AreRising cmp spans → AreJoined cmp spans [] → AreApart cmp spans
  none-apart [] rising are = tt
  none-apart (span ∷ spans) rising are = absurd ((are.cuts span.lower).1 (inl (first-cut o span rising.0)))

  -- the places of spans that are not merged as they stand
  pub joined-places : (spans : List (Ends T)) → AreRising cmp spans → ¬ AreApart cmp spans → (pairs : List (ℕ × ℕ))
      → AreJoinedAt cmp spans pairs → IsPlacesOf cmp spans pairs
  joined-places spans h1 h2 pairs h3 = grind (arith, none-apart)

-- ---- a merged span by its number

module _ {T : Type 0} (cmp : T → T → Ordering) where
  -- there are no places if the list is merged as it stands
  pub merged-by : (spans : List (Ends T)) (pairs : List (ℕ × ℕ)) (b : Bool) → (length pairs == 0) ≡ b
      → Tested b (merged_spans spans pairs ≡ spans) (merged_spans spans pairs ≡ map (span_of_places spans) pairs)
  merged-by spans pairs b h1 = grind arith

  module _ (spans : List (Ends T)) (pairs : List (ℕ × ℕ)) (k : ℕ) (low : k < length (merged_spans spans pairs)) where
    pub low-place : (length pairs == 0) ≡ true → k < length spans
    low-place e = subst (λ l. k < length l) (merged-by spans pairs true e) low

    module _ (some : (length pairs == 0) ≡ false) where
      pub low-pair : k < length pairs
      low-pair = grind (arith, merged-by, length-map)

      -- the merged span of a pair of places
      pub merged-at : (d : ℕ × ℕ) (span : Ends T) → span ≡ span_of_places spans (get_or pairs k d)
          → drop k (merged_spans spans pairs) ≡ span ∷ drop (k + 1) (merged_spans spans pairs)
      merged-at d span e = grind (arith, merged-by, drop-map, drop_more, low-pair)

  -- both places of each pair are in the list
  pub within-at : (spans : List (Ends T)) (pairs : List (ℕ × ℕ)) (k : ℕ) (d : ℕ × ℕ)
      → AllByRecursion (AreWithin spans) pairs
      → k < length pairs → AreWithin spans (get_or pairs k d)
  within-at spans [] k d within low = absurd (omega arith)
  within-at spans (p ∷ pairs) zero d within low = within.0
  within-at spans (p ∷ pairs) (suc k) d within low = within-at spans pairs k d within.1 (omega arith)

-- ---- moving ends out of the list

module _ {T : Type 0} {cmp : T → T → Ordering} (o : IsTotalOrder cmp) (spans : List (Ends T)) where
  -- the span of the pair is the same in both lists
  abbrev pub IsKept : List (Ends T) → ℕ × ℕ → Type 0
  IsKept now pair = span_of_places now pair ≡ span_of_places spans pair

  -- if the ends of one merged span are moved out, the later merged spans stay the same
  module _ (now new : List (Ends T)) (pair : ℕ × ℕ)
      (lowers : (k : ℕ) → k ≢ pair.0 → (span_at new k).lower ≡ (span_at now k).lower)
      (uppers : (k : ℕ) → k ≢ pair.1 → (span_at new k).upper ≡ (span_at now k).upper) where
    all-kept : (later : List (ℕ × ℕ))
        → AllByRecursion (λ (s : Ends T). IsCutBelow cmp (span_of_places spans pair).lower s.lower)
        (map (span_of_places spans) later)
        → AllByRecursion (λ (s : Ends T). IsCutBelow cmp (span_of_places spans pair).upper s.upper)
        (map (span_of_places spans) later) → AllByRecursion (IsKept now) later → AllByRecursion (IsKept new) later
    all-kept [] low high kept = tt
    all-kept (p ∷ later) low high kept = grind (arith, below_irrefl, all-kept later low.1 high.1 kept.1)

  pub itself-kept : (pairs : List (ℕ × ℕ)) → AllByRecursion (IsKept spans) pairs
  itself-kept [] = tt
  itself-kept (p ∷ pairs) = (refl, itself-kept pairs)

  -- the next pair of places
  module _ (now : List (Ends T)) (pairs : List (ℕ × ℕ)) (k : ℕ) (d : ℕ × ℕ) (some : pairs ≢ [])
      (are : AreMerged cmp (merged_spans spans pairs)) (low : k < length pairs)
      (kept : AllByRecursion (IsKept now) (drop k pairs)) where
    abbrev next : ℕ × ℕ
    next = get_or pairs k d

    here : drop k pairs ≡ next ∷ drop (k + 1) pairs
    here = drop_more pairs k d low

    kept' : AllByRecursion (IsKept now) (next ∷ drop (k + 1) pairs)
    kept' = subst (AllByRecursion (IsKept now)) here kept

    left : AreMerged cmp (map (span_of_places spans) (next ∷ drop (k + 1) pairs))
    left = grind (arith, some-map cmp, drop-map, here, merged-drop cmp k)

    pub next-rising : IsCutBelow cmp (span_at now next.0).lower (span_at now next.1).upper
    next-rising = subst (λ (s : Ends T). IsCutBelow cmp s.lower s.upper) (sym kept'.0) left.rising.0

    pub next-left : (new : List (Ends T)) → ((j : ℕ) → j ≢ next.0 → (span_at new j).lower ≡ (span_at now j).lower)
        → ((j : ℕ) → j ≢ next.1 → (span_at new j).upper ≡ (span_at now j).upper)
        → AllByRecursion (IsKept new) (drop (k + 1) pairs)
    next-left new lowers uppers =
        let up = merged-ascending o (map (span_of_places spans) (next ∷ drop (k + 1) pairs)) left in
        all-kept now new next lowers uppers (drop (k + 1) pairs) up.0.0 up.1.0 kept'.1

    pub next-done : (joined : List (Ends T)) (span : Ends T) → span ≡ span_of_places now next
        → (joined ++ span ∷ []) ++ map (span_of_places spans) (drop (k + 1) pairs)
        ≡ joined ++ map (span_of_places spans) (drop k pairs)
    next-done joined span e = grind (arith, append_assoc, here)
