-- How halving finds a cut among spans that are apart, by where they begin, and how many steps it takes.
use Rattle.std.proofs.Common.{Bool, IsTrue, ◌≡◌, ◌↔◌, ℕ, zero, suc, ◌+◌, ◌*◌, ◌^◌, ◌<◌, ◌≤◌, List, [], ◌∷◌}
use Rattle.std.proofs.Common.{◌++◌, take, drop, length, arith, sym, ap, subst, ◌∙◌, refl, inl, inr}
use Rattle.std.specs.Prelude.{not}
use Rattle.std.specs.declared.cmp.Ordering.{Ordering}
use Rattle.std.specs.Cmp.{IsTotalOrder}
use Rattle.std.specs.List.{AllByRecursion}
use Rattle.std.proofs.Math.Nat.{pow-succ'}
use Rattle.std.proofs.lemmas.List.{drop_more, take_more, take-append-drop}
use Rattle.semver_cuts.specs.declared.cut.Cut.{Cut}
use Rattle.semver_cuts.specs.SpanLists.{AreApart, IsInSome}
use Rattle.semver_cuts.specs.Ends.{Ends, IsCutAtMost, IsCutBelow, IsInSpan}
use Rattle.semver_cuts.specs.Joined.{AreMerged, AreRising}
use Rattle.semver_cuts.specs.Lemmas.Apart.{apart-above, apart-before, apart-behind, rising-behind}
use Rattle.semver_cuts.specs.Lemmas.Ends.{at_most-or-below, below-at_most, below-not-at_most, below_trans}
use Rattle.semver_cuts.specs.Lemmas.InSome.{in_some-either, in_some-right}
use Rattle.semver_cuts.specs.Lemmas.Lists.{all_both, all_map, all_middle, all_push}

-- ---- steps

-- the remaining steps, of as many as a number has digits: a halved distance has no more digits than steps remain
pub record IsLeft (before after digits distance : ℕ) : Type 0 where
  pub rest : ℕ
  pub sum : after + rest ≡ before + digits
  pub fits : distance < 2 ^ rest

pub left-first : (before digits distance : ℕ) → distance < 2 ^ digits → IsLeft before before digits distance
left-first before digits distance fits = record { rest = digits; sum = refl; fits = fits }

-- one step more, to half of the distance
step-of : (before after digits distance half rest : ℕ) → 1 ≤ distance → 2 * half ≤ distance
    → after + rest ≡ before + digits
    → distance < 2 ^ rest → IsLeft before (after + 1) digits half
step-of before after digits distance half zero some halved sum fits = absurd (omega arith)
step-of before after digits distance half (suc rest) some halved sum fits = grind (arith, pow-succ')

pub left-step : (before after digits distance half : ℕ) → 1 ≤ distance → 2 * half ≤ distance
    → IsLeft before after digits distance → IsLeft before (after + 1) digits half
left-step before after digits distance half some halved left =
    step-of before after digits distance half left.rest some halved left.sum left.fits

-- ---- spans

module _ {X : Type 0} (P : X → Type 0) where
  all-front : (front back : List X) → AllByRecursion P (front ++ back) → AllByRecursion P front
  all-front [] back all = tt
  all-front (x ∷ front) back all = (all.0, all-front front back all.1)

module _ {T : Type 0} {cmp : T → T → Ordering} (o : IsTotalOrder cmp) (cut : Cut T) where
  -- not at or below is above
  pub not-begun : (b : Bool) (lower : Cut T) → IsTrue b ↔ IsCutAtMost cmp lower cut
      → IsTrue (not b) ↔ IsCutBelow cmp cut lower
  not-begun b lower h1 = grind (arith, below-not-at_most, at_most-or-below)

  -- the cut lies in a span that begins at or below it and does not end there
  pub in_span : (a b : Bool) (span : Ends T) → IsTrue a → IsTrue a ↔ IsCutAtMost cmp span.lower cut
      → IsTrue b ↔ IsCutAtMost cmp span.upper cut → IsTrue (not b) ↔ IsInSpan cmp span cut
  in_span a b span is_true lower upper = grind (arith, not-begun)

  -- spans that begin above the cut do not have it
  pub none-begun : (spans : List (Ends T)) → AllByRecursion (λ (s : Ends T). IsCutBelow cmp cut s.lower) spans
      → ¬ IsInSome cmp spans cut
  none-begun [] above is = is
  none-begun (span ∷ spans) above (inl here) = below-not-at_most o cut span.lower above.0 here.lower
  none-begun (span ∷ spans) above (inr there) = none-begun spans above.1 there

  -- nor do spans that end at it or below
  all-ended : (spans : List (Ends T)) → AllByRecursion (λ (s : Ends T). IsCutAtMost cmp s.upper cut) spans
      → ¬ IsInSome cmp spans cut
  all-ended [] below is = is
  all-ended (span ∷ spans) below (inl here) = below-not-at_most o cut span.upper here.upper below.0
  all-ended (span ∷ spans) below (inr there) = all-ended spans below.1 there

  module _ (spans : List (Ends T)) (merged : AreMerged cmp spans) (place : ℕ) (span : Ends T)
      (within : place < length spans) (here : drop place spans ≡ span ∷ drop (place + 1) spans) where
    parts : spans ≡ take place spans ++ span ∷ drop (place + 1) spans
    parts = sym (take-append-drop place spans) ∙ ap (λ l. take place spans ++ l) here

    one_more : take (place + 1) spans ≡ take place spans ++ span ∷ []
    one_more = grind (arith, drop_more spans place span within, take_more spans place span within)

    rising : AreRising cmp (take place spans ++ span ∷ drop (place + 1) spans)
    rising = subst (AreRising cmp) parts merged.rising

    apart : AreApart cmp (take place spans ++ span ∷ drop (place + 1) spans)
    apart = subst (AreApart cmp) parts merged.apart

    whole : AreRising cmp (span ∷ drop (place + 1) spans)
    whole = rising-behind cmp (take place spans) (span ∷ drop (place + 1) spans) rising

    before : AllByRecursion (λ (s : Ends T). IsCutBelow cmp s.upper span.lower) (take place spans)
    before = apart-before o (take place spans) (drop (place + 1) spans) span apart rising

    -- a span that begins at or below the cut: so do all those before it
    pub begun_below : IsCutAtMost cmp span.lower cut
        → AllByRecursion (λ (s : Ends T). IsCutAtMost cmp s.lower cut) (take (place + 1) spans)
    begun_below h =
        let Below : Ends T → Type 0 = λ s. IsCutAtMost cmp s.lower cut in
        let rises : AllByRecursion (λ (s : Ends T). IsCutBelow cmp s.lower s.upper) (take place spans) =
        all-front (λ (s : Ends T). IsCutBelow cmp s.lower s.upper) (take place spans)
        (span ∷ drop (place + 1) spans) rising in
        subst (AllByRecursion Below) (sym one_more) (all_push Below (take place spans) span
        (all_both (λ (s : Ends T). IsCutBelow cmp s.lower s.upper)
        (λ (s : Ends T). IsCutBelow cmp s.upper span.lower) Below
        (λ s p q. inl (below-at_most o s.lower span.lower cut (below_trans o s.lower s.upper span.lower p q) h))
        (take place spans) rises before) h)

    -- the last of those that begin at or below the cut
    pub begun_last : AllByRecursion (λ (s : Ends T). IsCutAtMost cmp s.lower cut) (take (place + 1) spans)
        → IsCutAtMost cmp span.lower cut
    begun_last all = grind (arith, all_middle, one_more)

    -- a span that begins above the cut: so do all those behind it
    pub begun_above : IsCutBelow cmp cut span.lower
        → AllByRecursion (λ (s : Ends T). IsCutBelow cmp cut s.lower) (drop place spans)
    begun_above h =
        let Above : Ends T → Type 0 = λ s. IsCutBelow cmp cut s.lower in
        let rest : List (Ends T) = drop (place + 1) spans in
        let apart_rest : AreApart cmp (span ∷ rest) = apart-behind cmp (take place spans) (span ∷ rest) apart in
        subst (AllByRecursion Above) (sym here) (
          h,
          all_map (λ (s : Ends T). IsCutBelow cmp span.upper s.lower) Above
              (λ s p. below_trans o cut span.lower s.lower h (below_trans o span.lower span.upper s.lower whole.0 p))
              rest (apart-above o span rest apart_rest whole.1),
        )

    -- the last span that begins at or below the cut: the cut lies in some span exactly where it lies in that one
    pub last_begun : IsCutAtMost cmp span.lower cut
        → AllByRecursion (λ (s : Ends T). IsCutBelow cmp cut s.lower) (drop (place + 1) spans)
        → IsInSome cmp spans cut ↔ IsCutBelow cmp cut span.upper
    last_begun begun above =
        let front : List (Ends T) = take place spans in
        let back : List (Ends T) = drop (place + 1) spans in
        let ended : AllByRecursion (λ (s : Ends T). IsCutAtMost cmp s.upper cut) front =
        all_map (λ (s : Ends T). IsCutBelow cmp s.upper span.lower) (λ (s : Ends T). IsCutAtMost cmp s.upper cut)
        (λ s p. inl (below-at_most o s.upper span.lower cut p begun)) front before in (
          λ is. elim (in_some-either cmp cut front (span ∷ back) (subst (λ l. IsInSome cmp l cut) parts is)) [
            | inl earlier ↦ absurd (all-ended front ended earlier)
            | inr found ↦ elim found [
              | inl inside ↦ inside.upper
              | inr later ↦ absurd (none-begun back above later)
            ]
          ],
          λ below. subst (λ l. IsInSome cmp l cut) (sym parts)
              (in_some-right cmp cut front (span ∷ back) (inl (record { lower = begun; upper = below }))),
        )
