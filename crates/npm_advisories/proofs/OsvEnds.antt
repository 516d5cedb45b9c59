-- Ends and limits among cuts that are in order, and the spans up to them.
use Rattle.std.proofs.Common.{◌≡◌, ◌↔◌, ◌∙◌, ◌⊎◌, ◌+◌, ◌-◌, ◌<◌, ◌≤◌, ◌∷◌, [], Bool, List, ℕ, ap, arith, false, get_or}
use Rattle.std.proofs.Common.{inl, inr, length, refl, subst, sym, true}
use Rattle.std.specs.List.{Contains}
use Rattle.std.specs.List.Sorted.{IsNonDecreasingBy, IsPartitionedBy, IsPartitionPoint}
use Rattle.std.specs.Ordering.{is_le, is_lt, ordering_index, ordering_then}
use Rattle.std.specs.declared.cmp.Ordering.{Ordering}
use Rattle.std.specs.declared.cmp.Ordering.TheVariants.{Equal, Greater, Less}
use Rattle.std.proofs.lemmas.List.{get_or_default}
use Rattle.std.proofs.lemmas.List.Sorted.{ranks_by, searchable_from_sorted, sorted_far}
use Rattle.semver_cuts.specs.Cut.{cut_cmp}
use Rattle.semver_cuts.specs.Ends.{IsCutAtMost, IsCutBelow, span_between}
use Rattle.semver_cuts.specs.Lemmas.CutOrder.{cut_total}
use Rattle.semver_cuts.specs.Lemmas.Ends.{at_most-below, at_most-from_le, at_most-from_not_lt, at_most_refl, at_most_trans}
use Rattle.semver_cuts.specs.Lemmas.Ends.{below-at_most, below-from_lt, below-from_not_le, below-not-at_most}
use Rattle.semver_cuts.specs.Lemmas.Ends.{below_trans, lt-from_below}
use Rattle.semver_texts.specs.Lemmas.Public.{version_total}
use Rattle.node_semver.specs.Cuts.{After, Before, Cut, End}
use Rattle.node_semver.specs.Ranges.{IsRangeCut}
use Rattle.node_semver.specs.Versions.{VersionValue, version_cmp}
use Rattle.npm_advisories.specs.OsvRanges.{IsDoubtful, IsReachedBefore, Lasts}
use Rattle.npm_advisories.specs.Lemmas.Spans.{Have}
use Rattle.npm_advisories.specs.Private.OsvReading.{AreSorted, IsNextEnd, IsUpTo}

-- ---- lists of cuts in order

module _ (cuts : List (Cut VersionValue)) (sorted : AreSorted cuts) where
  -- a later one is not less
  pub in_order : (i j : ℕ) (d : Cut VersionValue) → i ≤ j → j < length cuts
      → IsCutAtMost version_cmp (get_or cuts i d) (get_or cuts j d)
  in_order i j d most within = at_most-from_not_lt version_total (get_or cuts j d) (get_or cuts i d)
      (sorted_far (λ x y. is_lt (cut_cmp version_cmp x y)) (ranks_by (cut_total version_total) (λ c. c)) cuts sorted i j
      d most within)

  rises : (t : Cut VersionValue) → IsNonDecreasingBy (λ c. ordering_index (cut_cmp version_cmp c t)) cuts
  rises t = searchable_from_sorted (cut_total version_total) (λ c. c) cuts t sorted

  pub parted-below : (t : Cut VersionValue) → IsPartitionedBy (λ c. is_lt (cut_cmp version_cmp c t)) cuts
  parted-below t i j d most within e =
      below-before (cut_cmp version_cmp (get_or cuts i d) t) (cut_cmp version_cmp (get_or cuts j d) t)
      (rises t i j d most within) e
    where
      below-before : (r s : Ordering) → ordering_index r ≤ ordering_index s → is_lt s ≡ true → is_lt r ≡ true
      below-before r s h1 h2 = grind arith

  pub parted-at_most : (t : Cut VersionValue) → IsPartitionedBy (λ c. is_le (cut_cmp version_cmp c t)) cuts
  parted-at_most t i j d most within e =
      at_most-before (cut_cmp version_cmp (get_or cuts i d) t) (cut_cmp version_cmp (get_or cuts j d) t)
      (rises t i j d most within) e
    where
      at_most-before : (r s : Ordering) → ordering_index r ≤ ordering_index s → is_le s ≡ true → is_le r ≡ true
      at_most-before r s h1 h2 = grind arith

-- ---- the next end

module _ (cuts : List (Cut VersionValue)) (from : Cut VersionValue) (place : ℕ)
    (parts : IsPartitionPoint (λ c. is_le (cut_cmp version_cmp c from) ≡ true)
    (λ c. is_le (cut_cmp version_cmp c from) ≡ false) cuts place) where
  -- one that is after the cut is at the place or later
  behind : (other : Cut VersionValue) (k : ℕ) → get_or cuts k other ≡ other → IsCutBelow version_cmp from other
      → ¬ (k < place)
  behind other k is later within = below-not-at_most version_total from other later
      (at_most-from_le version_cmp other from
      (ap (λ c. is_le (cut_cmp version_cmp c from)) (sym is) ∙ parts.0 k other (omega arith) within))

  pub next-found : AreSorted cuts → (end : Cut VersionValue) → place < length cuts → end ≡ get_or cuts place end
      → IsNextEnd (Contains cuts) from end
  next-found sorted end within is = record {
    least = λ other has later.
        let not = behind other has.0 has.2 later in
        let here : get_or cuts place other ≡ end = get_or_default cuts place other end within ∙ sym is in
        let most : place ≤ has.0 = omega (arith, not) in
        subst (λ c. IsCutAtMost version_cmp c other) here
        (subst (IsCutAtMost version_cmp (get_or cuts place other)) has.2
        (in_order cuts sorted place has.0 other most has.1));
    found = inr (
      (place, within, sym is),
      below-from_not_le version_total end from
          (ap (λ c. is_le (cut_cmp version_cmp c from)) is ∙ parts.1 place end (omega arith) within),
    );
  }

  pub next-none : (end : Cut VersionValue) → length cuts ≤ place → end ≡ End → IsNextEnd (Contains cuts) from end
  next-none end past is = record {
    least = λ other has later.
        let not = behind other has.0 has.2 later in
        let small : has.0 < length cuts = has.1 in
        absurd (omega (arith, not));
    found = inl is;
  }

module _ (E : Cut VersionValue → Type 0) (from end : Cut VersionValue) (next : IsNextEnd E from end) where
  -- a fault lasts until each cut before the next end
  pub lasts-next : (to : Cut VersionValue) → IsCutBelow version_cmp to End → Lasts E from to
      → IsCutBelow version_cmp to end
  lasts-next to before lasts = elim next.found [
    | inl last ↦ subst (IsCutBelow version_cmp to) (sym last) before
    | inr some ↦ lasts end some.0 some.1
  ]

  pub next-lasts : (to : Cut VersionValue) → IsCutBelow version_cmp to end → Lasts E from to
  next-lasts to before = λ other is later. below-at_most version_total to end other before (next.least other is later)

-- ---- the greatest limit

module _ (limits : List (Cut VersionValue)) (limit : Cut VersionValue) where
  pub up-to-last : length limits ≡ 0 → limit ≡ End → IsUpTo limits limit
  up-to-last none last = record {
    same = λ v. (
      λ before. subst (IsCutBelow version_cmp (Before v)) (sym last) refl,
      λ before. inl (λ cut has. let small : has.0 < length limits = has.1 in absurd (omega arith)),
    );
    found = inl last;
  }

  pub up-to-greatest : AreSorted limits → (place : ℕ) → length limits ≡ place + 1 → limit ≡ get_or limits place limit
      → IsUpTo limits limit
  up-to-greatest sorted place whole is = record {
    same = λ v. (
      λ before. elim before [
        | inl none ↦ absurd (none limit has)
        | inr some ↦ below-at_most version_total (Before v) some.0 limit some.2 (greatest some.0 some.1)
      ],
      λ before. inr (limit, has, before),
    );
    found = inr has;
  } where
    has : Contains limits limit
    has = (place, omega arith, sym is)

    greatest : (cut : Cut VersionValue) → Contains limits cut → IsCutAtMost version_cmp cut limit
    greatest cut inside =
        let small : inside.0 < length limits = inside.1 in
        let most : inside.0 ≤ place = omega arith in
        let within : place < length limits = omega arith in
        let here : get_or limits place cut ≡ limit = get_or_default limits place cut limit within ∙ sym is in
        subst (IsCutAtMost version_cmp cut) here
        (subst (λ c. IsCutAtMost version_cmp c (get_or limits place cut)) inside.2
        (in_order limits sorted inside.0 place cut most within))

-- ---- a fault that lasts until a cut

module _ (S E : Cut VersionValue → Type 0) (cut : Cut VersionValue) where
  pub reached-by : (from end : Cut VersionValue) → S from → IsCutBelow version_cmp from cut → IsNextEnd E from end
      → IsCutBelow version_cmp cut end → IsReachedBefore S E cut
  reached-by from end is before next later = record {
    from = from;
    introduced = is;
    before = before;
    lasts = next-lasts E from end next cut later;
  }

-- a start before a cut lasts until there exactly if the greatest of them does
module _ (starts : List (Cut VersionValue)) (sorted : AreSorted starts) (E : Cut VersionValue → Type 0)
    (cut : Cut VersionValue) (place : ℕ) (parts : IsPartitionPoint (λ c. is_lt (cut_cmp version_cmp c cut) ≡ true)
    (λ c. is_lt (cut_cmp version_cmp c cut) ≡ false) starts place) (most : place ≤ length starts) where
  -- a start before the cut has an index below the place
  ahead : (reached : IsReachedBefore (Contains starts) E cut) → reached.introduced.0 < place
  ahead reached =
      let is = reached.introduced in
      let not : ¬ (place ≤ is.0) = λ large. not-both (is_lt (cut_cmp version_cmp reached.from cut))
      (lt-from_below version_cmp reached.from cut reached.before)
      (ap (λ c. is_lt (cut_cmp version_cmp c cut)) (sym is.2) ∙ parts.1 is.0 reached.from large is.1) in
      omega (arith, not)
    where
      not-both : (b : Bool) → b ≡ true → ¬ (b ≡ false)
      not-both b passes fails = cc (passes, fails)

  pub none-reached : place ≡ 0 → ¬ IsReachedBefore (Contains starts) E cut
  none-reached none reached = let small = ahead reached in absurd (omega (arith, small))

  pub at_place : (start : Cut VersionValue) → 0 < place → start ≡ get_or starts (place - 1) start
      → Contains starts start × IsCutBelow version_cmp start cut
  at_place start some is = (
    (place - 1, omega arith, sym is),
    below-from_lt version_cmp start cut
        (ap (λ c. is_lt (cut_cmp version_cmp c cut)) is ∙ parts.0 (place - 1) start (omega arith) (omega arith)),
  )

  pub reached-last : (start end : Cut VersionValue) → 0 < place → start ≡ get_or starts (place - 1) start
      → IsNextEnd E start end → IsCutBelow version_cmp cut End → IsReachedBefore (Contains starts) E cut
      → IsCutBelow version_cmp cut end
  reached-last start end some is next last reached =
      let small = ahead reached in
      let before : reached.introduced.0 ≤ place - 1 = omega (arith, small) in
      let within : place - 1 < length starts = omega arith in
      let here : get_or starts (place - 1) reached.from ≡ start =
      get_or_default starts (place - 1) reached.from start within ∙ sym is in
      let first : IsCutAtMost version_cmp reached.from start =
      subst (IsCutAtMost version_cmp reached.from) here
      (subst (λ c. IsCutAtMost version_cmp c (get_or starts (place - 1) reached.from)) reached.introduced.2
      (in_order starts sorted reached.introduced.0 (place - 1) reached.from before within)) in
      lasts-next E start end next cut last (λ other ended later.
      reached.lasts other ended (at_most-below version_total reached.from start other first later))

-- ---- an end that is doubtful

module _ (S E : Cut VersionValue → Type 0) (v : VersionValue) (end : Cut VersionValue) where
  -- the end of all is after each version
  no-end : ¬ IsCutAtMost version_cmp End (After v)
  no-end (inl less) = cc less
  no-end (inr equal) = cc equal

  pub doubtful : S (Before v) → IsNextEnd E (Before v) end → IsCutAtMost version_cmp end (After v)
      → IsReachedBefore S E (Before v) → IsDoubtful S E v
  doubtful is next here reached = elim next.found [
    | inl last ↦ absurd (no-end (subst (λ c. IsCutAtMost version_cmp c (After v)) last here))
    | inr some ↦ record {
      introduced = is;
      end = end;
      ended = some.0;
      later = some.1;
      here = here;
      reached = reached;
    }
  ]

  -- the next end is not after one that is doubtful
  pub ends-here : IsNextEnd E (Before v) end → IsDoubtful S E v → IsCutAtMost version_cmp end (After v)
  ends-here next doubt =
      at_most_trans version_total end doubt.end (After v) (next.least doubt.end doubt.ended doubt.later) doubt.here

-- ---- a cut that is not after a version

pub up-to-same : (r : Ordering) → (is_le r ≡ true) ↔ ((ordering_then r Less ≡ Less) ⊎ (ordering_then r Less ≡ Equal))
up-to-same Less = (λ is. inl refl, λ is. refl)
up-to-same Equal = (λ is. inl refl, λ is. refl)
up-to-same Greater = (
  λ is. absurd (cc is),
  λ is. elim is [
    | inl none ↦ cc none
    | inr none ↦ cc none
  ],
)

pub up-to-plain : (r : Ordering) → (is_le r ≡ true) ↔ ((r ≡ Less) ⊎ (r ≡ Equal))
up-to-plain Less = (λ is. inl refl, λ is. refl)
up-to-plain Equal = (λ is. inr refl, λ is. refl)
up-to-plain Greater = (
  λ is. absurd (cc is),
  λ is. elim is [
    | inl none ↦ cc none
    | inr none ↦ cc none
  ],
)

-- ---- spans

module _ (from upper : Cut VersionValue) where
  -- the span from a cut to another has the versions between
  pub have-span : IsCutBelow version_cmp from upper → IsRangeCut from → IsRangeCut upper
      → Have (span_between from upper ∷ []) (λ v. IsCutAtMost version_cmp from (Before v)
      × IsCutBelow version_cmp (Before v) upper)
  have-span before low high = record {
    each = (
      record {
        holds = (from, record { lower = at_most_refl version_total from; upper = before });
        lower = low;
        upper = high;
      },
      tt,
    );
    exact = λ v. (
      λ contains. elim contains [
        | inl inside ↦ (inside.lower, inside.upper)
        | inr none ↦ absurd none
      ],
      λ is. inl (record { lower = is.0; upper = is.1 }),
    );
  }

  -- none has what lies before it
  pub have-nothing : IsCutAtMost version_cmp upper from → Have [] (λ v. IsCutAtMost version_cmp from (Before v)
      × IsCutBelow version_cmp (Before v) upper)
  have-nothing after = record {
    each = tt;
    exact = λ v. (
      λ none. absurd none,
      λ is. absurd (below-not-at_most version_total (Before v) upper is.1
          (at_most_trans version_total upper from (Before v) after is.0)),
    );
  }

-- a version before the lesser of two cuts is before both
pub before-both : (end limit upper : Cut VersionValue)
    → ((upper ≡ limit) × IsCutBelow version_cmp limit end) ⊎ ((upper ≡ end) × IsCutAtMost version_cmp end limit)
    → (to : Cut VersionValue) → IsCutBelow version_cmp to upper
    ↔ (IsCutBelow version_cmp to end × IsCutBelow version_cmp to limit)
before-both end limit upper (inl is) to = (
  λ before. let here = subst (IsCutBelow version_cmp to) is.0 before in
      (below_trans version_total to limit end here is.1, here),
  λ both. subst (IsCutBelow version_cmp to) (sym is.0) both.1,
)
before-both end limit upper (inr is) to = (
  λ before. let here = subst (IsCutBelow version_cmp to) is.0 before in
      (here, below-at_most version_total to end limit here is.1),
  λ both. subst (IsCutBelow version_cmp to) (sym is.0) both.0,
)
