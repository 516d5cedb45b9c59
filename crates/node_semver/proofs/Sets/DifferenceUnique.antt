-- What one list of spans has and another has not is one list: pieces that ascend and have the same cuts are the same,
-- versions at their ends included.
use native.Mathlib.Omega.{arith}
use Rattle.std.proofs.Common.{◌≡◌, ◌↔◌, ◌∙◌, List, [], ◌∷◌, ◌++◌, refl, sym, inl, inr}
use Rattle.std.specs.Cmp.{IsTotalOrder}
use Rattle.std.specs.List.{AllByRecursion}
use Rattle.std.specs.declared.cmp.Ordering.{Ordering}
use Rattle.std.specs.declared.cmp.Ordering.TheVariants.{Equal}
use Rattle.semver_cuts.specs.declared.cut.Cut.{Cut}
use Rattle.semver_cuts.specs.SpanLists.{AreApart, IsInSome}
use Rattle.semver_cuts.specs.Cut.{cut_cmp}
use Rattle.semver_cuts.specs.Ends.{Ends, IsCutAtMost, IsCutBelow, IsInSpan, span_between}
use Rattle.semver_cuts.specs.Difference.{AreDifference, IsFirstAt, IsInDifference, IsPiece, IsPieceLower, IsPieceUpper}
use Rattle.semver_cuts.specs.Difference.{IsWithinDifference}
use Rattle.semver_cuts.specs.Lemmas.Apart.{apart-above, apart-tail}
use Rattle.semver_cuts.specs.Lemmas.Ends.{at_most_refl, at_most_trans, at_most-below, at_most-both, at_most-or-below}
use Rattle.semver_cuts.specs.Lemmas.Ends.{below-not-at_most, below_irrefl, below_trans, cut_cmp-equal_back}
use Rattle.semver_cuts.specs.Lemmas.InSome.{some-above}
use Rattle.semver_cuts.specs.Lemmas.Lists.{all_map}
use Rattle.semver_cuts.specs.Lemmas.TwoSpans.{holds-below}

module _ {T : Type 0} {cmp : T → T → Ordering} (o : IsTotalOrder cmp) where
  -- ---- ends at one cut

  module _ (end : Ends T → Cut T) (c d : Cut T) (alike : cut_cmp cmp c d ≡ Equal) where
    -- the first span that has its end at a cut is one
    first_end-placed : (before before' after after' : List (Ends T)) (span span' : Ends T)
        → before ++ span ∷ after ≡ before' ++ span' ∷ after' → end span ≡ c → end span' ≡ d
        → AllByRecursion (λ (s : Ends T). ¬ (cut_cmp cmp (end s) c ≡ Equal)) before
        → AllByRecursion (λ (s : Ends T). ¬ (cut_cmp cmp (end s) d ≡ Equal)) before' → c ≡ d
    first_end-placed [] [] after after' span span' same p q e e' = cc (same, p, q)
    first_end-placed [] (y ∷ before') after after' span span' same p q e e' = grind arith
    first_end-placed (x ∷ before) [] after after' span span' same p q e e' = grind (arith, cut_cmp-equal_back)
    first_end-placed (x ∷ before) (y ∷ before') after after' span span' same p q e e' =
        let rest : before ++ span ∷ after ≡ before' ++ span' ∷ after' = cc same in
        first_end-placed before before' after after' span span' rest p q e.1 e'.1

    first_end-same : (spans : List (Ends T)) → IsFirstAt cmp end spans c → IsFirstAt cmp end spans d → c ≡ d
    first_end-same spans is is' = grind (arith, first_end-placed)

  -- ---- the pieces of one span

  module _ (others : List (Ends T)) (one : Ends T) where
    lower-same : (c d : Cut T) → cut_cmp cmp c d ≡ Equal → IsPieceLower cmp others one c
        → IsPieceLower cmp others one d → c ≡ d
    lower-same c d alike (inl own) (inl own') = own ∙ sym own'
    lower-same c d alike (inl own) (inr inner) = grind (arith, below-not-at_most, cut_cmp-equal_back)
    lower-same c d alike (inr inner) (inl own) = grind (arith, below-not-at_most)
    lower-same c d alike (inr inner) (inr inner') =
        first_end-same (λ (s : Ends T). s.upper) c d alike others inner.1 inner'.1

    upper-same : (c d : Cut T) → cut_cmp cmp c d ≡ Equal → IsPieceUpper cmp others one c
        → IsPieceUpper cmp others one d → c ≡ d
    upper-same c d alike (inl own) (inl own') = own ∙ sym own'
    upper-same c d alike (inl own) (inr inner) = grind (arith, below-not-at_most)
    upper-same c d alike (inr inner) (inl own) = grind (arith, below-not-at_most, cut_cmp-equal_back)
    upper-same c d alike (inr inner) (inr inner') =
        first_end-same (λ (s : Ends T). s.lower) c d alike others inner.1 inner'.1

    abbrev Piece : Ends T → Type 0
    Piece piece = IsPiece cmp others one piece

    rising : (p : Ends T) → Piece p → IsCutBelow cmp p.lower p.upper
    rising p is = (holds-below o p).0 is.holds

    begins : (p : Ends T) → Piece p → IsInSpan cmp p p.lower
    begins p is = record { lower = at_most_refl o p.lower; upper = rising p is }

    -- of two pieces with a cut in common the first begins no later
    lower-reach : (p q : Ends T) (c : Cut T) → Piece p → Piece q → IsInSpan cmp p c → IsInSpan cmp q c
        → IsCutAtMost cmp p.lower q.lower
    lower-reach p q c is is' in_p in_q = elim (at_most-or-below o q.lower p.lower) [
      | inl early ↦
          let wider : Ends T = span_between q.lower p.upper in
          let left : IsWithinDifference cmp others one wider = λ cut inside. elim (at_most-or-below o c cut) [
            | inl past ↦
                is.left cut (record { lower = at_most_trans o p.lower c cut in_p.lower past; upper = inside.upper })
            | inr short ↦
                is'.left cut (record { lower = inside.lower; upper = below_trans o cut c q.upper short in_q.upper })
          ] in
          (is.greatest wider left
          (grind (arith, at_most_trans))
          q.lower (grind (arith, at_most_refl, at_most-below))).lower
      | inr late ↦ inl late
    ]

    -- and ends no earlier
    upper-reach : (p q : Ends T) (c : Cut T) → Piece p → Piece q → IsInSpan cmp p c → IsInSpan cmp q c
        → IsCutAtMost cmp q.upper p.upper
    upper-reach p q c is is' in_p in_q = elim (at_most-or-below o q.upper p.upper) [
      | inl at ↦ at
      | inr less ↦
          let wider : Ends T = span_between p.lower q.upper in
          let left : IsWithinDifference cmp others one wider = λ cut inside. elim (at_most-or-below o c cut) [
            | inl past ↦
                is'.left cut (record { lower = at_most_trans o q.lower c cut in_q.lower past; upper = inside.upper })
            | inr short ↦
                is.left cut (record { lower = inside.lower; upper = below_trans o cut c p.upper short in_p.upper })
          ] in
          let inside : IsInSpan cmp p p.upper =
          is.greatest wider left
          (grind (arith, below_trans))
          p.upper (record { lower = inl (rising p is); upper = less }) in
          absurd (below_irrefl o p.upper inside.upper)
    ]

    -- so they are one piece
    touching : (p q : Ends T) (c : Cut T) → Piece p → Piece q → IsInSpan cmp p c → IsInSpan cmp q c → p ≡ q
    touching p q c is is' in_p in_q = grind (
      arith,
      lower-same p.lower q.lower
          (at_most-both o p.lower q.lower (lower-reach p q c is is' in_p in_q) (lower-reach q p c is' is in_q in_p))
          is.lower is'.lower,
      upper-same p.upper q.upper (grind (arith, at_most-both, upper-reach)) is.upper is'.upper,
    )

    -- ---- ascending pieces

    -- a cut of a later piece lies above the first one
    later-above : (p : Ends T) (ps : List (Ends T)) (cut : Cut T) → AllByRecursion Piece ps → AreApart cmp (p ∷ ps)
        → IsInSome cmp ps cut → IsCutBelow cmp p.upper cut
    later-above p ps cut all apart some = grind (
      arith,
      some-above o cut p.upper ps
          (apart-above o p ps apart (all_map Piece (λ (s : Ends T). IsCutBelow cmp s.lower s.upper) rising ps all)) some,
    )

    -- the cuts of the later pieces
    later-cuts : (p q : Ends T) (ps qs : List (Ends T)) → p ≡ q → AllByRecursion Piece ps → AreApart cmp (p ∷ ps)
        → ((cut : Cut T) → IsInSome cmp (p ∷ ps) cut → IsInSome cmp (q ∷ qs) cut)
        → (cut : Cut T) → IsInSome cmp ps cut → IsInSome cmp qs cut
    later-cuts p q ps qs first all apart goes cut some = grind (arith, below_irrefl, below_trans, later-above)

    -- the first of each
    first-piece : (p q : Ends T) (ps qs : List (Ends T)) → AllByRecursion Piece (p ∷ ps) → AllByRecursion Piece (q ∷ qs)
        → AreApart cmp (p ∷ ps) → AreApart cmp (q ∷ qs)
        → ((cut : Cut T) → IsInSome cmp (p ∷ ps) cut ↔ IsInSome cmp (q ∷ qs) cut) → p ≡ q
    first-piece p q ps qs all all' apart apart' same = elim ((same p.lower).0 (inl (begins p all.0))) [
      | inl here ↦ touching p q p.lower all.0 all'.0 (begins p all.0) here
      | inr there ↦ elim ((same q.lower).1 (inl (begins q all'.0))) [
        | inl here ↦ touching p q q.lower all.0 all'.0 here (begins q all'.0)
        | inr back ↦
            grind (arith, below_trans, rising, later-above, below_irrefl)
      ]
    ]

    -- ascending pieces with the same cuts are the same
    same-pieces : (ps qs : List (Ends T)) → AllByRecursion Piece ps → AllByRecursion Piece qs
        → AreApart cmp ps → AreApart cmp qs
        → ((cut : Cut T) → IsInSome cmp ps cut ↔ IsInSome cmp qs cut) → ps ≡ qs
    same-pieces [] [] all all' apart apart' same = refl
    same-pieces [] (q ∷ qs) all all' apart apart' same = absurd ((same q.lower).1 (inl (begins q all'.0)))
    same-pieces (p ∷ ps) [] all all' apart apart' same = absurd ((same p.lower).0 (inl (begins p all.0)))
    same-pieces (p ∷ ps) (q ∷ qs) all all' apart apart' same =
        let first : p ≡ q = first-piece p q ps qs all all' apart apart' same in
        let rest : ps ≡ qs = same-pieces ps qs all.1 all'.1 (apart-tail cmp p ps apart) (apart-tail cmp q qs apart')
        (λ cut. (
          later-cuts p q ps qs first all.1 apart (λ cut'. (same cut').0) cut,
          later-cuts q p qs ps (sym first) all'.1 apart' (λ cut'. (same cut').1) cut,
        )) in
        λ i. first i ∷ rest i

    pieces-all_left : (ps : List (Ends T)) (cut : Cut T) → AllByRecursion Piece ps → IsInSome cmp ps cut
        → IsInDifference cmp others one cut
    pieces-all_left [] cut all some = absurd some
    pieces-all_left (p ∷ ps) cut all (inl here) = all.0.left cut here
    pieces-all_left (p ∷ ps) cut all (inr there) = pieces-all_left ps cut all.1 there

  -- ---- the pieces of each span

  pub difference-unique : (ones others spans spans' : List (Ends T)) → AreDifference cmp ones others spans
      → AreDifference cmp ones others spans' → spans ≡ spans'
  difference-unique [] others spans spans' are are' = are ∙ sym are'
  difference-unique (one ∷ ones) others spans spans' are are' =
      let pieces : are.0 ≡ are'.0 = same-pieces others one are.0 are'.0 are.3.each are'.3.each are.3.ascending
      are'.3.ascending (λ cut. (
        λ some. are'.3.all cut (pieces-all_left others one are.0 cut are.3.each some),
        λ some. are.3.all cut (pieces-all_left others one are'.0 cut are'.3.each some),
      )) in
      grind (arith, difference-unique ones others are.1 are'.1 are.4 are'.4)
