-- Spans that are joined in the order of their lower ends. The joined spans are apart and have the same cuts, and of
-- equal ends that of the first span is chosen.
use Rattle.semver_cuts.specs.Lemmas.Apart.{lowers-above, lowers-from, lowers-at_least}
use Rattle.std.proofs.Common.{◌≡◌, ◌+◌, ◌⊎◌, ◌↔◌, ℕ, ◌≤◌, List, [], ◌∷◌, map, Ordering, Equal, false}
use Rattle.std.proofs.Common.{refl, inl, arith}
use Rattle.std.specs.List.{AllByRecursion}
use Rattle.std.specs.Ordering.{is_lt}
use Rattle.std.specs.Cmp.{IsTotalOrder}
use Rattle.semver_cuts.specs.declared.cut.Cut.{Cut}
use Rattle.semver_cuts.specs.Cut.{cut_cmp}
use Rattle.semver_cuts.specs.SpanLists.{AreApart, IsInSome}
use Rattle.semver_cuts.specs.Ends.{Ends, IsCutAtMost, IsCutBelow, IsInSpan, span_between}
use Rattle.semver_cuts.specs.Joined.{AreRising}
use Rattle.semver_cuts.specs.Private.Placed.{AreSorted, PlacedSpan, placed_cmp, placed_from}
use Rattle.semver_cuts.specs.Lemmas.Ends.{at_most-below, at_most-or-below, at_most_refl}
use Rattle.semver_cuts.specs.Lemmas.Ends.{at_most_trans, below-at_most, below_trans}
use Rattle.semver_cuts.specs.Lemmas.Ends.{cut_cmp-refl}
use Rattle.semver_cuts.specs.Lemmas.Lists.{all_map}
use Rattle.semver_cuts.proofs.Lists.Elements.{IsAmong, all-among}
use Rattle.semver_cuts.proofs.Joining.PlacedOrder.{AreInOrder, EndsLater, EndsNoLater, lower-later}
use Rattle.semver_cuts.proofs.Joining.PlacedOrder.{no_later-trans, place-later}

module _ {T : Type 0} (cmp : T → T → Ordering) where
  rising-placed : (n : ℕ) (spans : List (Ends T)) → AreRising cmp spans
      → AllByRecursion (λ (p : PlacedSpan T). IsCutBelow cmp p.span.lower p.span.upper) (placed_from n spans)
  rising-placed n [] rising = tt
  rising-placed n (span ∷ spans) rising = (rising.0, rising-placed (n + 1) spans rising.1)

module _ {T : Type 0} {cmp : T → T → Ordering} (o : IsTotalOrder cmp) (spans : List (Ends T))
    (order : List (PlacedSpan T)) (s : AreSorted cmp spans order) where
  abbrev pub In : PlacedSpan T → Type 0
  In = IsAmong (placed_from 0 spans)

  rises : (p : PlacedSpan T) → In p → IsCutBelow cmp p.span.lower p.span.upper
  rises p is = grind (arith, all-among, rising-placed cmp)

  -- the end of one of all spans, such that no span with an equal end has a lower place
  abbrev pub IsFirstPlaced : (Ends T → Cut T) → Cut T → Type 0
  IsFirstPlaced end cut = (p : PlacedSpan T) × In p × (end p.span ≡ cut)
      × ((q : PlacedSpan T) → In q → cut_cmp cmp (end q.span) cut ≡ Equal → p.place ≤ q.place)

  -- a run: the spans joined to the current joined span, with the later ones still to come
  pub record IsRun (lower upper : Cut T) (place : ℕ) (later : List (PlacedSpan T)) : Type 0 where
    pub rising : IsCutBelow cmp lower upper
    pub begins : IsFirstPlaced (λ s. s.lower) lower
    pub ends : (p : PlacedSpan T) × In p × (p.span.upper ≡ upper) × (p.place ≡ place)
    pub done : (q : PlacedSpan T) → In q → IsAmong later q ⊎ EndsNoLater o upper place q
    pub ahead : AllByRecursion (λ (q : PlacedSpan T). IsCutAtMost cmp lower q.span.lower) later

  -- the joined spans from a run on
  pub record AreEntries (lower upper : Cut T) (later : List (PlacedSpan T)) (entries : List (Ends T)) : Type 0 where
    pub rising : AreRising cmp entries
    pub apart : AreApart cmp entries
    pub from : AllByRecursion (λ (s : Ends T). IsCutAtMost cmp lower s.lower) entries
    pub lowers : AllByRecursion (λ (s : Ends T). IsFirstPlaced (λ s. s.lower) s.lower) entries
    pub uppers : AllByRecursion (λ (s : Ends T). IsFirstPlaced (λ s. s.upper) s.upper) entries
    pub cuts : (cut : Cut T) → IsInSome cmp entries cut
        ↔ (IsInSpan cmp (span_between lower upper) cut ⊎ IsInSome cmp (map (λ (p : PlacedSpan T). p.span) later) cut)

  -- the end of a run is the first at its cut, if the later spans begin above it
  first-end : (lower upper : Cut T) (place : ℕ) (later : List (PlacedSpan T)) → IsRun lower upper place later
      → AllByRecursion In later → AllByRecursion (λ (q : PlacedSpan T). IsCutBelow cmp upper q.span.lower) later
      → IsFirstPlaced (λ s. s.upper) upper
  first-end lower upper place later run all above = (
    run.ends.0,
    run.ends.1,
    run.ends.2,
    λ q in' same. grind (arith, run.done q in', run.ends, all-among _ later q above, rises q in'),
  )

  -- a new run begins with a span, if all earlier spans end below it
  pub new-run : (next : PlacedSpan T) (later : List (PlacedSpan T)) → In next → AreInOrder cmp (next ∷ later)
      → ((q : PlacedSpan T) → In q → IsAmong (next ∷ later) q ⊎ IsCutBelow cmp q.span.upper next.span.lower)
      → IsRun next.span.lower next.span.upper next.place later
  new-run next later in' ascends old =
      let behind = all-among (λ (p : PlacedSpan T). is_lt (placed_cmp cmp p next) ≡ false) later in record {
        rising = rises next in';
        begins = (next, in', refl, λ q is same. grind (arith, old q is, rises q is, place-later o next q, behind q));
        ends = (next, in', refl, refl);
        done = λ q is. grind (arith, old q is, rises next in', cut_cmp-refl o, below_trans o);
        ahead = all_map _ _ (λ q h. lower-later o next q h) later ascends.0;
      }

  -- the joined spans after the last of the later spans
  pub entries-last : (lower upper : Cut T) (place : ℕ) → IsRun lower upper place []
      → AreEntries lower upper [] (span_between lower upper ∷ [])
  entries-last lower upper place run = grind arith

  -- ---- one more span

  module _ (lower upper : Cut T) (place : ℕ) (next : PlacedSpan T) (later : List (PlacedSpan T))
      (run : IsRun lower upper place (next ∷ later)) (all : AllByRecursion In (next ∷ later))
      (ascends : AreInOrder cmp (next ∷ later)) where
    -- it begins above the end of the run
    pub starts-run : IsCutBelow cmp upper next.span.lower → IsRun next.span.lower next.span.upper next.place later
    starts-run gap = new-run next later all.0 ascends (λ q is. grind
        (arith, run.done q is, at_most-below o q.span.upper upper))

    pub starts : IsCutBelow cmp upper next.span.lower → (entries : List (Ends T))
        → AreEntries next.span.lower next.span.upper later entries
        → AreEntries lower upper (next ∷ later) (span_between lower upper ∷ entries)
    starts gap entries rest =
        let over = lowers-from o upper next.span.lower entries gap rest.from in
        let ahead = all_map _ _ (λ q h. below-at_most o upper next.span.lower q.span.lower gap h) later
        (starts-run gap).ahead in
        let first = first-end lower upper place (next ∷ later) run all (gap, ahead) in
        let from = lowers-at_least o lower entries (lowers-above o lower upper entries (inl run.rising) over) in
        grind (arith, at_most_refl o)

    -- it begins at or below the end of the run, and ends later
    pub grown-run : EndsLater o upper place next → IsRun lower next.span.upper next.place later
    grown-run ends_later = grind (arith, below-at_most, no_later-trans, cut_cmp-refl)

    -- or it does not end later
    pub kept-run : EndsNoLater o upper place next → IsRun lower upper place later
    kept-run no_later = grind arith

    -- then the joined spans are those of the longer run, `wide` being the greater of the two ends
    pub goes-on : IsCutAtMost cmp next.span.lower upper → (wide : Cut T) → IsCutAtMost cmp upper wide
        → IsCutAtMost cmp next.span.upper wide → (wide ≡ upper) ⊎ (wide ≡ next.span.upper) → (entries : List (Ends T))
        → AreEntries lower wide later entries → AreEntries lower upper (next ∷ later) entries
    goes-on touches wide higher within which entries rest = record {
      rising = rest.rising;
      apart = rest.apart;
      from = rest.from;
      lowers = rest.lowers;
      uppers = rest.uppers;
      cuts = λ cut. (
        λ is. grind (arith, (rest.cuts cut).0 is, at_most-or-below o upper cut, at_most_trans o next.span.lower),
        λ is. grind (arith, (rest.cuts cut).1, below-at_most o cut, at_most_trans o lower next.span.lower),
      );
    }
