-- Spans in order that do not touch: the place of the one that contains a cut.
use Rattle.std.proofs.Common.{◌≡◌, ◌∙◌, ◌<◌, ◌≤◌, ◌⊎◌, ℕ, List, [], ◌∷◌, arith, ap, false, get_or, inl, inr, length}
use Rattle.std.proofs.Common.{suc, subst, sym, true, zero}
use Rattle.std.specs.List.{AllByRecursion, Contains}
use Rattle.std.specs.List.Sorted.{IsPartitionedBy, IsPartitionPoint}
use Rattle.std.specs.Ordering.{is_le}
use Rattle.semver_cuts.specs.Cut.{cut_cmp}
use Rattle.semver_cuts.specs.Ends.{Ends, IsCutAtMost, IsCutBelow, IsInSpan}
use Rattle.semver_cuts.specs.Joined.{AreMerged}
use Rattle.semver_cuts.specs.Lemmas.Apart.{apart-above, merged-tail}
use Rattle.semver_cuts.specs.Lemmas.Ends.{at_most-from_le, below-at_most, below-from_not_le}
use Rattle.semver_cuts.specs.Lemmas.Ends.{below-not-at_most, below_irrefl, below_trans, le-from_at_most}
use Rattle.semver_cuts.specs.SpanLists.{AnyByRecursion}
use Rattle.semver_texts.specs.Lemmas.Public.{version_total}
use Rattle.node_semver.specs.Cuts.{Cut, IsInSome}
use Rattle.node_semver.specs.Versions.{VersionValue, version_cmp}

-- ---- elements at places

module _ {X : Type 0} (P : X → Type 0) where
  pub all-at : (xs : List X) (k : ℕ) (d : X) → AllByRecursion P xs → k < length xs → P (get_or xs k d)
  all-at [] k d all lt = absurd (omega arith)
  all-at (x ∷ xs) zero d all lt = all.0
  all-at (x ∷ xs) (suc k) d all lt = all-at xs k d all.1 (omega arith)

  pub any-index : (xs : List X) → AnyByRecursion P xs → (k : ℕ) × (k < length xs) × ((d : X) → P (get_or xs k d))
  any-index [] some = absurd some
  any-index (x ∷ xs) (inl here) = (0, omega arith, λ d. here)
  any-index (x ∷ xs) (inr there) = let rest = any-index xs there in (suc rest.0, omega (arith, rest.1), λ d. rest.2 d)

  pub index-any : (xs : List X) (k : ℕ) (d : X) → k < length xs → P (get_or xs k d) → AnyByRecursion P xs
  index-any [] k d lt is = absurd (omega arith)
  index-any (x ∷ xs) zero d lt is = inl is
  index-any (x ∷ xs) (suc k) d lt is = inr (index-any xs k d (omega arith) is)

-- ---- merged spans

abbrev Span : Type 0
Span = Ends VersionValue

module _ (spans : List Span) (are : AreMerged version_cmp spans) where
  pub rising-at : (k : ℕ) (d : Span) → k < length spans
      → IsCutBelow version_cmp (get_or spans k d).lower (get_or spans k d).upper
  rising-at k d lt = all-at (λ (s : Span). IsCutBelow version_cmp s.lower s.upper) spans k d are.rising lt

-- an earlier span ends below where a later one begins
pub apart-at : (spans : List Span) → AreMerged version_cmp spans → (i j : ℕ) (d : Span) → i < j → j < length spans
    → IsCutBelow version_cmp (get_or spans i d).upper (get_or spans j d).lower
apart-at [] are i j d less lt = absurd (omega arith)
apart-at (s ∷ spans) are i zero d less lt = absurd (omega arith)
apart-at (s ∷ spans) are zero (suc j) d less lt =
    all-at (λ (t : Span). IsCutBelow version_cmp s.upper t.lower) spans j d
    (apart-above version_total s spans are.apart are.rising.1) (omega arith)
apart-at (s ∷ spans) are (suc i) (suc j) d less lt =
    apart-at spans (merged-tail version_cmp s spans are) i j d (omega arith) (omega arith)

module _ (spans : List Span) (are : AreMerged version_cmp spans) where
  -- no span contains the cut where one of them ends
  pub end-free : (span : Span) → Contains spans span → ¬ IsInSome version_cmp spans span.upper
  end-free span has some =
      let found = any-index (λ (s : Span). IsInSpan version_cmp s span.upper) spans some in
      let j = found.0 in
      let inside : IsInSpan version_cmp (get_or spans j span) span.upper = found.2 span in
      elim (order has.0 j) [
        | inl less ↦ below-not-at_most version_total span.upper (get_or spans j span).lower
            (subst (λ (s : Span). IsCutBelow version_cmp s.upper (get_or spans j span).lower) has.2
            (apart-at spans are has.0 j span less found.1)) inside.lower
        | inr rest ↦ elim rest [
          | inl same ↦ below_irrefl version_total span.upper
              (subst (λ (s : Span). IsCutBelow version_cmp span.upper s.upper)
              (ap (λ n. get_or spans n span) (sym same) ∙ has.2) inside.upper)
          | inr more ↦ below_irrefl version_total span.upper
              (below_trans version_total span.upper (get_or spans j span).upper span.upper inside.upper
              (below_trans version_total (get_or spans j span).upper span.lower span.upper
              (subst (λ (s : Span). IsCutBelow version_cmp (get_or spans j span).upper s.lower) has.2
              (apart-at spans are j has.0 span more has.1))
              (subst (λ (s : Span). IsCutBelow version_cmp s.lower s.upper) has.2
              (rising-at spans are has.0 span has.1))))
        ]
      ]
    where
      order : (i j : ℕ) → (i < j) ⊎ ((i ≡ j) ⊎ (j < i))
      order i j = grind arith

  -- the spans that do not end above a cut come first
  pub parted : (cut : Cut VersionValue)
      → IsPartitionedBy (λ (s : Span). is_le (cut_cmp version_cmp s.upper cut)) spans
  parted cut i j d most lt passes = elim (same-or-less i j most) [
    | inl same ↦ ap (λ n. is_le (cut_cmp version_cmp (get_or spans n d).upper cut)) same ∙ passes
    | inr less ↦ le-from_at_most version_cmp (get_or spans i d).upper cut
        (inl (below-at_most version_total (get_or spans i d).upper (get_or spans j d).upper cut
        (below_trans version_total (get_or spans i d).upper (get_or spans j d).lower (get_or spans j d).upper
        (apart-at spans are i j d less lt) (rising-at spans are j d lt))
        (at_most-from_le version_cmp (get_or spans j d).upper cut passes)))
  ] where
    same-or-less : (i j : ℕ) → i ≤ j → (i ≡ j) ⊎ (i < j)
    same-or-less i j most = grind arith

  module _ (cut : Cut VersionValue) (place : ℕ)
      (parts : IsPartitionPoint (λ (s : Span). is_le (cut_cmp version_cmp s.upper cut) ≡ true)
      (λ (s : Span). is_le (cut_cmp version_cmp s.upper cut) ≡ false) spans place) where
    -- the span at the place contains the cut if it does not begin above
    pub around : (span : Span) → place < length spans → span ≡ get_or spans place span
        → IsCutAtMost version_cmp span.lower cut → Contains spans span × IsInSpan version_cmp span cut
    around span lt is begun = (
      (place, lt, sym is),
      record {
        lower = begun;
        upper = below-from_not_le version_total span.upper cut
            (ap (λ (s : Span). is_le (cut_cmp version_cmp s.upper cut)) is ∙ parts.1 place span (omega arith) lt);
      },
    )

    none-before : (k : ℕ) (d : Span) → k < place → k < length spans → ¬ IsInSpan version_cmp (get_or spans k d) cut
    none-before k d less lt inside = below-not-at_most version_total cut (get_or spans k d).upper inside.upper
        (at_most-from_le version_cmp (get_or spans k d).upper cut (parts.0 k d (omega arith) less))

    -- and if it does, none contains the cut
    pub none-between : (span : Span) → place < length spans → span ≡ get_or spans place span
        → IsCutBelow version_cmp cut span.lower → ¬ IsInSome version_cmp spans cut
    none-between span lt is begins some =
        let found = any-index (λ (s : Span). IsInSpan version_cmp s cut) spans some in
        let k = found.0 in
        let inside : IsInSpan version_cmp (get_or spans k span) cut = found.2 span in
        elim (order k place) [
          | inl less ↦ none-before k span less found.1 inside
          | inr most ↦ elim most [
            | inl same ↦ below-not-at_most version_total cut span.lower begins
                (subst (λ (s : Span). IsCutAtMost version_cmp s.lower cut) (sym is)
                (subst (λ n. IsCutAtMost version_cmp (get_or spans n span).lower cut) (sym same) inside.lower))
            | inr more ↦ below-not-at_most version_total cut (get_or spans k span).lower
                (below_trans version_total cut span.lower (get_or spans k span).lower begins
                (below_trans version_total span.lower span.upper (get_or spans k span).lower
                (subst (λ (s : Span). IsCutBelow version_cmp s.lower s.upper) (sym is) (rising-at spans are place span lt))
                (subst (λ (s : Span). IsCutBelow version_cmp s.upper (get_or spans k span).lower) (sym is)
                (apart-at spans are place k span more found.1)))) inside.lower
          ]
        ]
      where
        order : (k n : ℕ) → (k < n) ⊎ ((n ≡ k) ⊎ (n < k))
        order k n = grind arith

    -- nor if there is no span at the place
    pub none-past : length spans ≤ place → ¬ IsInSome version_cmp spans cut
    none-past done some =
        let found = any-index (λ (s : Span). IsInSpan version_cmp s cut) spans some in
        let d : Span = record { lower = cut; upper = cut } in
        none-before found.0 d (omega (arith, found.1)) found.1 (found.2 d)
