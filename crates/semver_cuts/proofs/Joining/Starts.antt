-- For each cut of a list: either a joined span begins there, or a span of the list reaches it from below.
use native.Mathlib.Omega.{arith}
use Rattle.std.proofs.Common.{◌≡◌, List, [], ◌∷◌, Bool, true, false, not, ◌&&◌, Ordering, Equal}
use Rattle.std.proofs.Common.{inl, inr, ⊎_elim}
use Rattle.std.specs.List.{AllByRecursion}
use Rattle.std.specs.Ordering.{is_eq, is_le, is_lt}
use Rattle.std.specs.Cmp.{Equal-is, IsTotalOrder}
use Rattle.std.proofs.lemmas.Bool.{and_parts, or_cases, or_parts}
use Rattle.semver_cuts.specs.declared.cut.Cut.{Cut}
use Rattle.semver_cuts.specs.Cut.{cut_cmp}
use Rattle.semver_cuts.specs.SpanLists.{IsInSome}
use Rattle.semver_cuts.specs.Ends.{Ends, IsCutAtMost, IsCutBelow}
use Rattle.semver_cuts.specs.Joined.{AreJoined, AreMerged, AreRising}
use Rattle.semver_cuts.specs.Starts.{begins_at, reaches}
use Rattle.semver_cuts.specs.Lemmas.Ends.{at_most-below, at_most-from_le, at_most-or-below, at_most_refl, at_most_trans}
use Rattle.semver_cuts.specs.Lemmas.Ends.{below-at_most, below-from_lt, below-not-at_most, below_trans}
use Rattle.semver_cuts.specs.Lemmas.Ends.{le-from_at_most, lt-from_below}
use Rattle.semver_cuts.specs.Lemmas.InSome.{in_span-or_not}
use Rattle.semver_cuts.proofs.Differences.GreatestSpans.{HasGapBelow, gaps-below}
use Rattle.semver_cuts.proofs.Walks.{first-cut}

-- ---- tests

and-false : (a b : Bool) → (a && b) ≡ false → a ≡ true → b ≡ true → ⊥
and-false a b h1 h2 h3 = grind arith

one_only : (begins reached : Bool) → (begins ≡ true → reached ≡ true → ⊥) → (begins ≡ false → reached ≡ false → ⊥)
    → not reached ≡ begins
one_only begins reached h1 h2 = grind arith

-- ---- where a merged span begins

module _ {T : Type 0} {cmp : T → T → Ordering} (o : IsTotalOrder cmp) where
  pub equal-from : (c d : Cut T) → is_eq (cut_cmp cmp c d) ≡ true → cut_cmp cmp c d ≡ Equal
  equal-from c d h = (Equal-is (cut_cmp cmp c d)).0 h

  -- if the spans all begin above a cut, the lower end of each is above it
  pub begins-above : (c cut : Cut T) (spans : List (Ends T))
      → AllByRecursion (λ (s : Ends T). IsCutBelow cmp c s.lower) spans
      → begins_at cmp spans cut ≡ true → IsCutBelow cmp c cut
  begins-above c cut [] above h = cc
  begins-above c cut (span ∷ spans) above h =
      grind (arith, or_cases, equal-from, below-at_most, begins-above c cut spans above.1)

  -- a fact of each lower end is one of a cut that equals the cut where one of the spans begins
  begun-of : (P : Ends T → Type 0) (spans : List (Ends T)) (cut : Cut T) → AllByRecursion P spans
      → begins_at cmp spans cut ≡ true → (span : Ends T) × P span × (cut_cmp cmp span.lower cut ≡ Equal)
  begun-of P [] cut all h = cc
  begun-of P (span ∷ spans) cut all h = ⊎_elim (λ here. (span, all.0, equal-from span.lower cut here))
      (λ there. begun-of P spans cut all.1 there) (or_cases _ _ h)

  -- between a cut of merged spans and a lower end above it, some cut lies in none of them
  gap-before : (spans : List (Ends T)) → AreMerged cmp spans → (cut early : Cut T) → begins_at cmp spans cut ≡ true
      → IsInSome cmp spans early → IsCutBelow cmp early cut
      → (gap : Cut T) × IsCutBelow cmp early gap × IsCutBelow cmp gap cut × ¬ IsInSome cmp spans gap
  gap-before spans are cut early h is low =
      grind (
        arith,
        begun-of (HasGapBelow o spans) spans cut (gaps-below o spans are.apart are.rising) h,
        gaps-below o
            spans are.apart are.rising,
      )

  -- below a cut of merged spans at which none begins, there is a cut such that all cuts between lie in the spans
  goes-on : (spans : List (Ends T)) → (cut : Cut T) → IsInSome cmp spans cut → begins_at cmp spans cut ≡ false
      → (low : Cut T) × IsCutBelow cmp low cut
      × ((c : Cut T) → IsCutAtMost cmp low c → IsCutBelow cmp c cut → IsInSome cmp spans c)
  goes-on [] cut is h = absurd is
  goes-on (span ∷ spans) cut (inl here) h = grind (arith, or_parts, below_trans o)
  goes-on (span ∷ spans) cut (inr there) h =
      let apart = or_parts (is_eq (cut_cmp cmp span.lower cut)) (begins_at cmp spans cut) h in
      let found = goes-on spans cut there apart.1 in
      (found.0, found.1, λ c low high. inr (found.2 c low high))

  -- ---- spans that reach a cut from below

  -- if no span reaches the cut from below, then above each lower cut some cut lies in none
  beyond : (spans : List (Ends T)) (cut : Cut T) → reaches cmp spans cut ≡ false → (low : Cut T)
      → IsCutBelow cmp low cut
      → (c : Cut T) × IsCutAtMost cmp low c × IsCutBelow cmp c cut × ¬ IsInSome cmp spans c
  beyond [] cut h low lt = (low, at_most_refl o low, lt, λ is. is)
  beyond (span ∷ spans) cut h low lt =
      let neither = or_parts (is_lt (cut_cmp cmp span.lower cut) && is_le (cut_cmp cmp cut span.upper))
      (reaches cmp spans cut) h in
      let found = beyond spans cut neither.1 low lt in
      ⊎_elim
      (λ inside.
      let begins = at_most-below o span.lower found.0 cut inside.lower found.2 in
      let ends : IsCutBelow cmp span.upper cut = ⊎_elim (λ le. absurd
      (and-false _ _ neither.0 (lt-from_below cmp span.lower cut begins) (le-from_at_most cmp cut span.upper le)))
      (λ below. below) (at_most-or-below o cut span.upper) in
      let next = beyond spans cut neither.1 span.upper ends in (
        next.0,
        at_most_trans o low found.0 next.0 found.1 (at_most_trans o found.0 span.upper next.0 (inl inside.upper)
            next.1),
        next.2,
        ⊎_elim (λ itself. below-not-at_most o next.0 span.upper itself.upper next.1) next.3,
      ))
      (λ outside. (found.0, found.1, found.2, ⊎_elim outside found.3))
      (in_span-or_not o found.0 span)

  -- if a span reaches the cut, the cuts from its lower end up to the cut lie in it
  reached : (spans : List (Ends T)) → AreRising cmp spans → (cut : Cut T) → reaches cmp spans cut ≡ true
      → (low : Cut T) × IsInSome cmp spans low × IsCutBelow cmp low cut
      × ((c : Cut T) → IsCutBelow cmp low c → IsCutBelow cmp c cut → IsInSome cmp spans c)
  reached [] rising cut h = cc
  reached (span ∷ spans) rising cut h = ⊎_elim
      (λ here. let both = and_parts _ _ here in (
        span.lower,
        inl (first-cut o span rising.0),
        below-from_lt cmp span.lower cut both.0,
        λ c low high. grind (arith, both, at_most-from_le cmp cut span.upper, below-at_most o c cut span.upper),
      ))
      (λ there. let found = reached spans rising.1 cut there in
      (found.0, inr found.1, found.2, λ c low high. inr (found.3 c low high)))
      (or_cases (is_lt (cut_cmp cmp span.lower cut) && is_le (cut_cmp cmp cut span.upper)) (reaches cmp spans cut) h)

  -- ---- the cuts of the list

  pub begins-or_reached : (spans joined : List (Ends T)) → AreRising cmp spans → AreJoined cmp spans joined
      → (cut : Cut T)
      → IsInSome cmp spans cut → not (reaches cmp spans cut) ≡ begins_at cmp joined cut
  begins-or_reached spans joined rising are cut is = one_only (begins_at cmp joined cut) (reaches cmp spans cut)
      (λ begins reach. let found = reached spans rising cut reach in
      grind (arith, gap-before joined are.merged cut found.0 begins, are.cuts))
      (λ none free. let found = goes-on joined cut ((are.cuts cut).1 is) none in
      grind (arith, beyond spans cut free found.0 found.1, are.cuts))
