-- The spans that a list is joined to are apart, and have its cuts. Each end is that of the first span of the list that
-- has an end at this cut.
use Rattle.std.proofs.Common.{◌≡◌, ◌↔◌, ℕ, ◌+◌, ◌≤◌, suc, List, [], ◌∷◌, map, Ordering, Equal, Bool, refl}
use Rattle.std.proofs.Common.{ap, subst, inl, inr, arith, add-one}
use Rattle.std.specs.List.{AllByRecursion}
use Rattle.std.specs.List.Sorted.{IsPermutation, IsSortedBy}
use Rattle.std.specs.Ordering.{is_lt}
use Rattle.std.specs.Cmp.{IsStrictWeakOrder, IsTotalOrder}
use Rattle.std.proofs.lemmas.List.Elements.{recursion_from_All}
use Rattle.std.proofs.lemmas.List.Sorted.{IsPermutation-sym, ranks_by, sorted_far}
use Rattle.semver_cuts.specs.declared.cut.Cut.{Cut}
use Rattle.semver_cuts.specs.Cut.{cut_cmp}
use Rattle.semver_cuts.specs.SpanLists.{IsInSome}
use Rattle.semver_cuts.specs.Ends.{Ends, IsInSpan}
use Rattle.semver_cuts.specs.Difference.{IsFirstAt}
use Rattle.semver_cuts.specs.Joined.{AreJoined}
use Rattle.semver_cuts.specs.Private.Placed.{AreSorted, PlacedSpan, placed_cmp, placed_from}
use Rattle.semver_cuts.specs.Lemmas.Joined.{all_unit}
use Rattle.semver_cuts.specs.Lemmas.Lists.{all_map}
use Rattle.semver_cuts.specs.Lemmas.Placed.{placed_total}
use Rattle.semver_cuts.proofs.Lists.Elements.{IsAmong, all-moved, among-itself, among-moved}
use Rattle.semver_cuts.proofs.Joining.PlacedOrder.{AreInOrder}
use Rattle.semver_cuts.proofs.Joining.JoinedRuns.{AreEntries, In, IsRun, new-run}

-- ---- spans with their places, and a permutation of them

module _ {T : Type 0} {cmp : T → T → Ordering} (o : IsTotalOrder cmp) where
  -- a cut lies in some of the spans exactly if it lies in one of them
  some-among : (ps : List (PlacedSpan T)) (cut : Cut T) → IsInSome cmp (map (λ (p : PlacedSpan T). p.span) ps) cut
      → (p : PlacedSpan T) × IsAmong ps p × IsInSpan cmp p.span cut
  some-among [] cut is = elim is [ ]
  some-among (p ∷ ps) cut (inl here) = (p, inl refl, here)
  some-among (p ∷ ps) cut (inr there) = let h = some-among ps cut there in (h.0, inr h.1, h.2)

  among-some : (ps : List (PlacedSpan T)) (cut : Cut T) (p : PlacedSpan T) → IsAmong ps p → IsInSpan cmp p.span cut
      → IsInSome cmp (map (λ (p : PlacedSpan T). p.span) ps) cut
  among-some [] cut p is h = elim is [ ]
  among-some (q ∷ ps) cut p (inl same) h = inl (subst (λ (p : PlacedSpan T). IsInSpan cmp p.span cut) same h)
  among-some (q ∷ ps) cut p (inr there) h = inr (among-some ps cut p there h)

  some-moved : (ps qs : List (PlacedSpan T)) → IsPermutation ps qs → (cut : Cut T)
      → IsInSome cmp (map (λ (p : PlacedSpan T). p.span) qs) cut
      → IsInSome cmp (map (λ (p : PlacedSpan T). p.span) ps) cut
  some-moved ps qs moves cut is =
      let h = some-among qs cut is in among-some ps cut h.0 (among-moved ps qs moves h.0 h.1) h.2

  pub map-placed : (n : ℕ) (spans : List (Ends T)) → map (λ (p : PlacedSpan T). p.span) (placed_from n spans) ≡ spans
  map-placed n [] = refl
  map-placed n (span ∷ spans) = ap (λ l. span ∷ l) (map-placed (n + 1) spans)

  place-from : (n : ℕ) (spans : List (Ends T)) (p : PlacedSpan T) → IsAmong (placed_from n spans) p → n ≤ p.place
  place-from n [] p is = elim is [ ]
  place-from n (span ∷ spans) p (inl same) = let e = ap (λ (q : PlacedSpan T). q.place) same in omega arith
  place-from n (span ∷ spans) p (inr there) = let h = place-from (n + 1) spans p there in omega arith

  -- of equal ends, that with the lowest place is the first of the list
  first-placed : (end : Ends T → Cut T) (cut : Cut T) (n : ℕ) (spans : List (Ends T)) (p : PlacedSpan T)
      → IsAmong (placed_from n spans) p → end p.span ≡ cut
      → ((q : PlacedSpan T) → IsAmong (placed_from n spans) q → cut_cmp cmp (end q.span) cut
      ≡ Equal → p.place ≤ q.place)
      → IsFirstAt cmp end spans cut
  first-placed end cut n [] p is at least = elim is [ ]
  first-placed end cut n (span ∷ spans) p (inl same) at least =
      record {
        before = [];
        span = span;
        after = spans;
        parts = refl;
        end_of = cc;
        earlier = tt;
        later = all_unit spans;
      }
  first-placed end cut n (span ∷ spans) p (inr there) at least =
      let rest = first-placed end cut (n + 1) spans p there at (λ q is. least q (inr is)) in
      let high = place-from (n + 1) spans p there in
      let first = least (record { span = span; place = n }) (inl refl) in record {
        before = span ∷ rest.before;
        span = rest.span;
        after = rest.after;
        parts = ap (λ l. span ∷ l) rest.parts;
        end_of = rest.end_of;
        earlier = (λ same. absurd (grind (arith, first)), rest.earlier);
        later = rest.later;
      }

  -- ---- the order that a sort gives

  before : PlacedSpan T → PlacedSpan T → Bool
  before p q = is_lt (placed_cmp cmp p q)

  weak : IsStrictWeakOrder before
  unfolding before
  weak = ranks_by (placed_total o) (λ (p : PlacedSpan T). p)

  sorted-tail : (p : PlacedSpan T) (ps : List (PlacedSpan T)) → IsSortedBy before (p ∷ ps) → IsSortedBy before ps
  sorted-tail p ps up k d low high = rw add-one (rw add-one at (up (suc k) d (omega arith) (omega arith)))

  in-order : (ps : List (PlacedSpan T)) → IsSortedBy before ps → AreInOrder cmp ps
  unfolding before
  in-order [] up = tt
  in-order (p ∷ ps) up = (
    recursion_from_All _ ps (λ k d h. sorted_far before weak (p ∷ ps) up 0 (suc k) d (omega arith)
        (omega arith)),
    in-order ps (sorted-tail p ps up),
  )

  -- ---- the spans of a list, sorted and joined

  module _ (spans : List (Ends T)) (order : List (PlacedSpan T)) (s : AreSorted cmp spans order) where
    some-of : (cut : Cut T) → IsInSome cmp (map (λ (p : PlacedSpan T). p.span) order) cut ↔ IsInSome cmp spans cut
    some-of cut = (
      λ is. grind (arith, map-placed 0 spans, some-moved (placed_from 0 spans) order s.same cut is),
      λ is.
          grind (
            arith,
            map-placed 0 spans,
            some-moved order (placed_from 0 spans)
                (IsPermutation-sym (placed_from 0 spans) order s.same) cut,
          ),
    )

    pub all-in_order : AreInOrder cmp order
    unfolding before
    all-in_order = in-order order s.sorted

    pub all-in : AllByRecursion (In o spans order s) order
    all-in = all-moved (In o spans order s) (placed_from 0 spans) order s.same (among-itself (placed_from 0 spans))

    -- an empty list is joined to itself
    pub none-joined : order ≡ [] → AreJoined cmp spans []
    none-joined e = grind (arith, some-of)

    module _ (first : PlacedSpan T) (later : List (PlacedSpan T)) (e : order ≡ first ∷ later) where
      -- the run of the first span
      pub first-run : IsRun o spans order s first.span.lower first.span.upper first.place later
      first-run = new-run o spans order s first later (subst (AllByRecursion (In o spans order s)) e all-in).0
          (subst (AreInOrder cmp) e all-in_order)
          (λ q is. grind (
            arith,
            e,
            among-moved order (placed_from 0 spans)
                (IsPermutation-sym (placed_from 0 spans) order s.same) q,
          ))

      -- the joined spans from there on are those that the list is joined to
      pub first-joined : (entries : List (Ends T))
          → AreEntries o spans order s first.span.lower first.span.upper later entries → AreJoined cmp spans entries
      first-joined entries come = search (arith, some-of, all_map, first-placed)
