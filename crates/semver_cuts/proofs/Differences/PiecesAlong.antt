-- The pieces of a span outside merged spans, found one by one in ascending order.
use Rattle.semver_cuts.specs.Lemmas.Apart.{lowers-above, lowers-from, lowers-at_least, uppers-above}
use native.Mathlib.Omega.{arith}
use Rattle.std.proofs.Common.{◌≡◌, ◌⊎◌, List, [], ◌∷◌, ◌++◌, Ordering, true, false, inl, inr, subst}
use Rattle.std.proofs.lemmas.List.{append-nil, append_assoc}
use Rattle.std.specs.List.{AllByRecursion}
use Rattle.std.specs.Cmp.{IsTotalOrder}
use Rattle.std.specs.Ordering.{is_lt}
use Rattle.semver_cuts.specs.Cut.{cut_cmp}
use Rattle.semver_cuts.specs.declared.cut.Cut.{Cut}
use Rattle.semver_cuts.specs.SpanLists.{AreApart, IsInSome}
use Rattle.semver_cuts.specs.Ends.{Ends, IsCutAtMost, IsCutBelow, span_between}
use Rattle.semver_cuts.specs.Difference.{ArePieces, IsFirstAt, IsPieceLower, IsPieceUpper}
use Rattle.semver_cuts.specs.Joined.{AreMerged, AreRising}
use Rattle.semver_cuts.specs.Lemmas.Apart.{apart-above, apart-cons, merged-tail}
use Rattle.semver_cuts.specs.Lemmas.Ends.{at_most-below, at_most-from_not_lt, at_most-or-below, at_most_refl}
use Rattle.semver_cuts.specs.Lemmas.Ends.{below-from_lt}
use Rattle.semver_cuts.specs.Lemmas.Ends.{at_most_trans, below-at_most, below-not-at_most, below_trans}
use Rattle.semver_cuts.proofs.Differences.GreatestSpans.{none-above}

-- the pieces, outside the spans, of the part of `one` from a cut on
pub record ArePiecesFrom {T : Type 0} (cmp : T → T → Ordering) (others : List (Ends T)) (one : Ends T) (low : Cut T)
    (spans parts : List (Ends T)) : Type 0 where
  pub rising : AreRising cmp parts
  pub apart : AreApart cmp parts
  pub from : AllByRecursion (λ (s : Ends T). IsCutAtMost cmp low s.lower) parts
  pub inside : (cut : Cut T) → IsInSome cmp parts cut
      → IsCutAtMost cmp low cut × IsCutBelow cmp cut one.upper × ¬ (IsInSome cmp spans cut)
  pub all : (cut : Cut T) → IsCutAtMost cmp low cut → IsCutBelow cmp cut one.upper → ¬ (IsInSome cmp spans cut)
      → IsInSome cmp parts cut
  pub lowers : AllByRecursion (λ (s : Ends T). IsPieceLower cmp others one s.lower) parts
  pub uppers : AllByRecursion (λ (s : Ends T). IsPieceUpper cmp others one s.upper) parts

-- both ends of the span are those of the first of the others with an end at this cut
abbrev pub HasFirstEnds : {T : Type 0} → (T → T → Ordering) → List (Ends T) → Ends T → Type 0
HasFirstEnds {T} cmp others span =
    IsFirstAt cmp (λ (s : Ends T). s.lower) others span.lower × IsFirstAt cmp
    (λ (s : Ends T). s.upper) others span.upper

module _ {T : Type 0} {cmp : T → T → Ordering} (o : IsTotalOrder cmp) where
  -- the piece below the next span is added, if a cut lies there
  abbrev pub IsAdded : Cut T → Cut T → List (Ends T) → List (Ends T) → Type 0
  IsAdded low lower done new =
      (IsCutBelow cmp low lower × (new ≡ done ++ span_between low lower ∷ [])) ⊎
      (IsCutAtMost cmp lower low × (new ≡ done))

  pub added-by : (low lower : Cut T) (first old now done : List (Ends T)) → old ≡ first ++ done
      → ((is_lt (cut_cmp cmp low lower) ≡ true) × (now ≡ old ++ span_between low lower ∷ []))
      ⊎ ((is_lt (cut_cmp cmp low lower) ≡ false) × (now ≡ old))
      → (new : List (Ends T)) × (now ≡ first ++ new) × IsAdded low lower done new
  added-by low lower first old now done h1 h2 = grind (arith, append_assoc, below-from_lt cmp, at_most-from_not_lt o)

module _ {T : Type 0} {cmp : T → T → Ordering} (o : IsTotalOrder cmp) (others : List (Ends T)) (one : Ends T) where
  -- if no span begins below the end of `one`, the part is one piece
  whole-piece : (low : Cut T) (spans : List (Ends T)) → IsCutBelow cmp low one.upper
      → IsPieceLower cmp others one low
      → AllByRecursion (λ (s : Ends T). IsCutAtMost cmp one.upper s.lower) spans
      → ArePiecesFrom cmp others one low spans (span_between low one.upper ∷ [])
  whole-piece low spans below end above =
      let none = λ (cut : Cut T) (h : IsCutBelow cmp cut one.upper). none-above cmp o cut spans
      (lowers-from o cut one.upper spans h above) in
      grind (arith, none, at_most_refl o low)

  -- if the cut is not below the end of `one`, there is no piece
  no-piece : (low : Cut T) (spans : List (Ends T)) → IsCutAtMost cmp one.upper low
      → ArePiecesFrom cmp others one low spans []
  no-piece low spans above = grind (arith, below-not-at_most, at_most_trans, above)

  module _ (low : Cut T) (span : Ends T) (spans : List (Ends T)) (over : IsCutBelow cmp low span.upper)
      (rising : IsCutBelow cmp span.lower span.upper)
      (above : AllByRecursion (λ (s : Ends T). IsCutBelow cmp span.upper s.lower) spans)
      (begins : IsCutBelow cmp span.lower one.upper) where
    -- the pieces above the first of the spans, and the piece below it
    behind : (parts : List (Ends T)) → ArePiecesFrom cmp others one span.upper spans parts → (cut : Cut T)
        → IsInSome cmp parts cut
        → IsCutAtMost cmp low cut × IsCutBelow cmp cut one.upper × ¬ (IsInSome cmp (span ∷ spans) cut)
    behind parts are cut is = grind (arith, below-at_most o, below-not-at_most o)

    from_behind : (parts : List (Ends T)) → ArePiecesFrom cmp others one span.upper spans parts → (cut : Cut T)
        → IsCutBelow cmp cut one.upper → ¬ (IsInSome cmp (span ∷ spans) cut) → IsCutAtMost cmp span.lower cut
        → IsInSome cmp parts cut
    from_behind parts are cut u free l = grind arith

    without-first : (parts : List (Ends T)) → ArePiecesFrom cmp others one span.upper spans parts
        → IsCutAtMost cmp span.lower low → ArePiecesFrom cmp others one low (span ∷ spans) parts
    without-first parts are touches = grind (
      arith,
      lowers-from o low span.upper,
      lowers-at_least o low,
      behind,
      at_most_trans o,
    )

    with-first : (parts : List (Ends T)) → ArePiecesFrom cmp others one span.upper spans parts
        → IsCutBelow cmp low span.lower → IsPieceLower cmp others one low
        → IsFirstAt cmp (λ (s : Ends T). s.lower) others span.lower
        → ArePiecesFrom cmp others one low (span ∷ spans) (span_between low span.lower ∷ parts)
    with-first parts are room end first =
        let none = λ (cut : Cut T) (h : IsCutBelow cmp cut span.lower). none-above cmp o cut (span ∷ spans)
        (h, lowers-above o cut span.upper spans (inl (below_trans o cut span.lower span.upper h rising)) above) in
        record {
          rising = (room, are.rising);
          apart = apart-cons cmp (span_between low span.lower) parts
              (lowers-from o span.lower span.upper parts rising are.from) are.apart;
          from = (at_most_refl o low, lowers-at_least o low parts (lowers-from o low span.upper parts over are.from));
          inside = λ cut is. grind (arith, none cut, behind parts are cut, below_trans o cut span.lower one.upper);
          all = λ cut l u free. grind (arith, from_behind parts are cut u free, at_most-or-below o span.lower cut);
          lowers = (end, are.lowers);
          uppers = (inr (begins, first), are.uppers);
        }

  -- ---- the walk along the spans

  -- the pieces so far, where those from a cut on are left, outside the spans that are left
  pub record IsWalked (low : Cut T) (spans done : List (Ends T)) : Type 0 where
    pub below : IsCutBelow cmp low one.upper
    pub least : IsCutAtMost cmp one.lower low
    pub end : IsPieceLower cmp others one low
    pub over : AllByRecursion (λ (s : Ends T). IsCutBelow cmp low s.upper) spans
    pub merged : AreMerged cmp spans
    pub first : AllByRecursion (HasFirstEnds cmp others) spans
    pub left : (parts : List (Ends T)) → ArePiecesFrom cmp others one low spans parts
        → ArePieces cmp others one (done ++ parts)

  -- no span begins below the end of `one`: one more piece
  pub walked-stopped : (low : Cut T) (spans done : List (Ends T)) → IsWalked low spans done
      → AllByRecursion (λ (s : Ends T). IsCutAtMost cmp one.upper s.lower) spans
      → ArePieces cmp others one (done ++ span_between low one.upper ∷ [])
  walked-stopped low spans done walked above = grind (arith, whole-piece)

  module _ (low : Cut T) (span : Ends T) (all spans done : List (Ends T)) (walking : IsWalked low all done)
      (parts : all ≡ span ∷ spans) where
    walked : IsWalked low (span ∷ spans) done
    walked = subst (λ l. IsWalked low l done) parts walking

    above : AllByRecursion (λ (s : Ends T). IsCutBelow cmp span.upper s.lower) spans
    above = apart-above o span spans walked.merged.apart walked.merged.rising.1

    -- the next span begins at the end of `one` or above
    pub walked-past : IsCutAtMost cmp one.upper span.lower
        → ArePieces cmp others one (done ++ span_between low one.upper ∷ [])
    walked-past past =
        let over = at_most-below o one.upper span.lower span.upper past walked.merged.rising.0 in
        walked-stopped low (span ∷ spans) done walked
        (past, lowers-at_least o one.upper spans (lowers-above o one.upper span.upper spans (inl over) above))

    module _ (begins : IsCutBelow cmp span.lower one.upper) (new : List (Ends T)) where
      added : IsAdded o low span.lower done new → (parts : List (Ends T))
          → ArePiecesFrom cmp others one span.upper spans parts → ArePieces cmp others one (new ++ parts)
      added (inl h) parts from = rw (h.1, append_assoc) (walked.left _ (with-first low span spans walked.over.0
          walked.merged.rising.0 above begins parts from h.0 walked.end walked.first.0.0))
      added (inr h) parts from = rw h.1 (walked.left parts (without-first low span spans walked.over.0
          walked.merged.rising.0 above begins parts from h.0))

      -- it ends at the end of `one` or above: there are no more pieces
      pub walked-ended : IsAdded o low span.lower done new → IsCutAtMost cmp one.upper span.upper
          → ArePieces cmp others one new
      walked-ended more past = rw (← append-nil new) (added more [] (no-piece span.upper spans past))

      -- or below it: the walk goes on
      pub walked-next : IsAdded o low span.lower done new → IsCutBelow cmp span.upper one.upper
          → IsWalked span.upper spans new
      walked-next more ends =
          let over = at_most-below o one.lower low span.upper walked.least walked.over.0 in
          let uppers = uppers-above o span.upper spans above walked.merged.rising.1 in
          grind (arith, over, uppers, walked, merged-tail cmp span spans walked.merged, added more)
