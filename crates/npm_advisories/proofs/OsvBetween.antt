-- The spans of the faults that are introduced at the starts of marks.
use Rattle.std.proofs.Common.{◌≡◌, ◌↔◌, ◌∙◌, ◌⊎◌, ◌++◌, ◌∷◌, [], List, arith, inl, inr, refl, subst, suc, sym}
use Rattle.std.specs.List.{Contains}
use Rattle.std.specs.List.Sorted.{IsPermutation}
use Rattle.std.proofs.lemmas.List.Sorted.{Contains-permutation, IsPermutation-sym}
use Rattle.std.specs.Prelude.{Err, Ok, OnOk, Result}
use Rattle.semver_cuts.specs.Ends.{Ends, IsCutAtMost, IsCutBelow, span_between}
use Rattle.semver_cuts.specs.Lemmas.Lists.{any-at}
use Rattle.node_semver.specs.Cuts.{After, Before, Cut}
use Rattle.node_semver.specs.Ranges.{AnyByRecursion, IsRangeCut}
use Rattle.node_semver.specs.Versions.{VersionValue, version_cmp}
use Rattle.npm_advisories.specs.OsvRanges.{IsDoubtful}
use Rattle.npm_advisories.specs.Lemmas.Spans.{Have}
use Rattle.npm_advisories.specs.Private.OsvReading.{HasRangeCuts, HasSameMarks, IsBetweenMarks, IsFrom, IsFromStart}
use Rattle.npm_advisories.specs.Private.OsvReading.{IsNextEnd, IsUpTo}
use Rattle.npm_advisories.specs.declared.osv.marks.Marks.{Marks}
use Rattle.npm_advisories.proofs.OsvEnds.{before-both, have-nothing, have-span, lasts-next, next-lasts}
use Rattle.npm_advisories.proofs.OsvMarks.{between-along}
use Rattle.npm_advisories.specs.Lemmas.Spans.{have-either, have-same}

-- ---- the same marks in another order

same-cuts : (xs ys : List (Cut VersionValue)) → IsPermutation xs ys → (c : Cut VersionValue)
    → Contains xs c ↔ Contains ys c
same-cuts xs ys moved c =
    (Contains-permutation xs ys c moved, Contains-permutation ys xs c (IsPermutation-sym xs ys moved))

turned : {A B : Type 0} → A ↔ B → B ↔ A
turned same = (same.1, same.0)

module _ (marks other : Marks) (same : HasSameMarks marks other) where
  pub cuts-moved : HasRangeCuts marks → HasRangeCuts other
  cuts-moved cuts = record {
    starts = λ c has. cuts.starts c ((same-cuts marks.starts.items other.starts.items same.starts c).1 has);
    ends = λ c has. cuts.ends c ((same-cuts marks.ends.items other.ends.items same.ends c).1 has);
    limits = λ c has. cuts.limits c ((same-cuts marks.limits.items other.limits.items same.limits c).1 has);
  }

  pub have-moved : (spans : List (Ends VersionValue)) → Have spans (IsBetweenMarks other)
      → Have spans (IsBetweenMarks marks)
  have-moved spans have = have-same (IsBetweenMarks other) (IsBetweenMarks marks) spans (λ v. (
    between-along (Contains other.starts.items) (Contains marks.starts.items) (Contains other.ends.items)
        (Contains marks.ends.items) (Contains other.limits.items) (Contains marks.limits.items)
        (λ c. (same-cuts marks.starts.items other.starts.items same.starts c).1)
        (λ c. turned (same-cuts marks.ends.items other.ends.items same.ends c))
        (λ c. turned (same-cuts marks.limits.items other.limits.items same.limits c)) v,
    between-along (Contains marks.starts.items) (Contains other.starts.items) (Contains marks.ends.items)
        (Contains other.ends.items) (Contains marks.limits.items) (Contains other.limits.items)
        (λ c. (same-cuts marks.starts.items other.starts.items same.starts c).0)
        (same-cuts marks.ends.items other.ends.items same.ends)
        (same-cuts marks.limits.items other.limits.items same.limits) v,
  )) have

-- ---- one start

module _ (marks : Marks) (limit : Cut VersionValue) (up_to : IsUpTo marks.limits.items limit) where
  -- from a cut to the next end and before the limit
  from-same : (from end : Cut VersionValue) → IsNextEnd (Contains marks.ends.items) from end → (v : VersionValue)
      → (IsCutAtMost version_cmp from (Before v) × IsCutBelow version_cmp (Before v) end
      × IsCutBelow version_cmp (Before v) limit) ↔ IsFrom marks from v
  from-same from end next v = (
    λ is. record {
      reached = is.0;
      lasts = next-lasts (Contains marks.ends.items) from end next (Before v) is.1;
      limited = (up_to.same v).1 is.2;
    },
    λ is. (
      is.reached,
      lasts-next (Contains marks.ends.items) from end next (Before v) refl is.lasts,
      (up_to.same v).0 is.limited,
    ),
  )

  module _ (start end : Cut VersionValue) (next : IsNextEnd (Contains marks.ends.items) start end)
      (one : List (Ends VersionValue)) (have : Have one (λ v. IsCutAtMost version_cmp start (Before v)
      × IsCutBelow version_cmp (Before v) end × IsCutBelow version_cmp (Before v) limit)) where
    -- an end that is not doubtful
    pub have-once : ((w : VersionValue) → start ≡ Before w
        → ¬ IsDoubtful (Contains marks.starts.items) (Contains marks.ends.items) w) → Have one (IsFromStart marks start)
    have-once sure = have-same (λ v. IsCutAtMost version_cmp start (Before v) × IsCutBelow version_cmp (Before v) end
        × IsCutBelow version_cmp (Before v) limit) (IsFromStart marks start) one (λ v. (
          λ is. inl ((from-same start end next v).0 is),
          λ is. elim is [
            | inl from ↦ (from-same start end next v).1 from
            | inr again ↦ absurd (sure again.0 again.1 again.2)
          ],
        )) have

    -- one that is
    pub have-twice : (w : VersionValue) → start ≡ Before w
        → IsDoubtful (Contains marks.starts.items) (Contains marks.ends.items) w → (later : Cut VersionValue)
        → IsNextEnd (Contains marks.ends.items) (After w) later → (two : List (Ends VersionValue))
        → Have two (λ v. IsCutAtMost version_cmp (After w) (Before v) × IsCutBelow version_cmp (Before v) later
        × IsCutBelow version_cmp (Before v) limit) → Have (one ++ two) (IsFromStart marks start)
    have-twice w is doubt later behind two have_two =
        let One : VersionValue → Type 0 = λ v. IsCutAtMost version_cmp start (Before v)
        × IsCutBelow version_cmp (Before v) end × IsCutBelow version_cmp (Before v) limit in
        let Two : VersionValue → Type 0 = λ v. IsCutAtMost version_cmp (After w) (Before v)
        × IsCutBelow version_cmp (Before v) later × IsCutBelow version_cmp (Before v) limit in
        have-same (λ v. One v ⊎ Two v) (IsFromStart marks start) (one ++ two) (λ v. (
          λ either. elim either [
            | inl first ↦ inl ((from-same start end next v).0 first)
            | inr second ↦ inr (w, is, doubt, (from-same (After w) later behind v).0 second)
          ],
          λ from. elim from [
            | inl first ↦ inl ((from-same start end next v).1 first)
            | inr again ↦
                let at : Before again.0 ≡ Before w = sym again.1 ∙ is in
                let same : again.0 ≡ w = cc at in
                inr ((from-same (After w) later behind v).1 (subst (λ x. IsFrom marks (After x) v) same again.3))
          ],
        )) (have-either One Two one two have have_two)

-- ---- one span

module _ (from end limit upper : Cut VersionValue)
    (lesser : ((upper ≡ limit) × IsCutBelow version_cmp limit end) ⊎ ((upper ≡ end) × IsCutAtMost version_cmp end limit))
  where
    both : (v : VersionValue) → (IsCutAtMost version_cmp from (Before v) × IsCutBelow version_cmp (Before v) upper)
        ↔ (IsCutAtMost version_cmp from (Before v) × IsCutBelow version_cmp (Before v) end
        × IsCutBelow version_cmp (Before v) limit)
    both v = (
      λ is. let two = (before-both end limit upper lesser (Before v)).0 is.1 in (is.0, two.0, two.1),
      λ is. (is.0, (before-both end limit upper lesser (Before v)).1 (is.1, is.2)),
    )

    pub have-limited : IsCutBelow version_cmp from upper → IsRangeCut from → IsRangeCut end → IsRangeCut limit
        → Have (span_between from upper ∷ []) (λ v. IsCutAtMost version_cmp from (Before v)
        × IsCutBelow version_cmp (Before v) end × IsCutBelow version_cmp (Before v) limit)
    have-limited before low high most = have-same (λ v. IsCutAtMost version_cmp from (Before v)
        × IsCutBelow version_cmp (Before v) upper) (λ v. IsCutAtMost version_cmp from (Before v)
        × IsCutBelow version_cmp (Before v) end × IsCutBelow version_cmp (Before v) limit) (span_between from upper ∷ [])
        both (have-span from upper before low (elim lesser [
          | inl is ↦ subst IsRangeCut (sym is.0) most
          | inr is ↦ subst IsRangeCut (sym is.0) high
        ]))

    pub have-unlimited : IsCutAtMost version_cmp upper from
        → Have [] (λ v. IsCutAtMost version_cmp from (Before v) × IsCutBelow version_cmp (Before v) end
        × IsCutBelow version_cmp (Before v) limit)
    have-unlimited after = have-same (λ v. IsCutAtMost version_cmp from (Before v)
        × IsCutBelow version_cmp (Before v) upper) (λ v. IsCutAtMost version_cmp from (Before v)
        × IsCutBelow version_cmp (Before v) end × IsCutBelow version_cmp (Before v) limit) [] both
        (have-nothing from upper after)

-- what follows where a result is no error
pub on-ok : {A E : Type 0} {P Q : Type 0} → (r : Result A E) → (P → Q) → OnOk r P → OnOk r Q
on-ok (Ok a) f p = f p
on-ok (Err e) f p = tt

-- ---- all starts

pub have-single : {X : Type 0} (P : X → VersionValue → Type 0) (x : X) (spans : List (Ends VersionValue))
    → Have spans (P x) → Have spans (λ v. AnyByRecursion (λ y. P y v) (x ∷ []))
have-single P x spans have = record {
  each = have.each;
  exact = λ v. (
    λ contains. inl ((have.exact v).0 contains),
    λ some. elim some [
      | inl here ↦ (have.exact v).1 here
      | inr none ↦ absurd none
    ],
  );
}

module _ {X : Type 0} (P : X → Type 0) where
  any-in : (xs : List X) → AnyByRecursion P xs → (x : X) × Contains xs x × P x
  any-in [] some = absurd some
  any-in (x ∷ xs) (inl here) = (x, (0, omega arith, refl), here)
  any-in (x ∷ xs) (inr there) =
      let rest = any-in xs there in (rest.0, (suc rest.1.0, omega (arith, rest.1.1), rest.1.2), rest.2)

  in-any : (xs : List X) (x : X) → Contains xs x → P x → AnyByRecursion P xs
  in-any xs x has is = any-at P xs has.0 x has.1 (sym has.2) is

pub have-all : (marks : Marks) (spans : List (Ends VersionValue))
    → Have spans (λ v. AnyByRecursion (λ start. IsFromStart marks start v) marks.starts.items)
    → Have spans (IsBetweenMarks marks)
have-all marks spans have =
    have-same (λ v. AnyByRecursion (λ start. IsFromStart marks start v) marks.starts.items) (IsBetweenMarks marks) spans
    (λ v. (
      λ some.
          let found = any-in (λ start. IsFromStart marks start v) marks.starts.items some in
          elim found.2 [
            | inl is ↦ record {
              from = found.0;
              begins = inl found.1;
              reached = is.reached;
              lasts = is.lasts;
              limited = is.limited;
            }
            | inr again ↦ record {
              from = After again.0;
              begins = inr (again.0, again.2, refl);
              reached = again.3.reached;
              lasts = again.3.lasts;
              limited = again.3.limited;
            }
          ],
      λ is. elim is.begins [
        | inl has ↦ in-any (λ start. IsFromStart marks start v) marks.starts.items is.from has
            (inl (record { reached = is.reached; lasts = is.lasts; limited = is.limited }))
        | inr again ↦ in-any (λ start. IsFromStart marks start v) marks.starts.items (Before again.0)
            again.1.introduced (inr (
              again.0,
              refl,
              again.1,
              subst (λ c. IsFrom marks c v) again.2
                  (record { reached = is.reached; lasts = is.lasts; limited = is.limited }),
            ))
      ],
    )) have

-- the next end can be an end of a range, and so can the greatest limit
pub next-cut : (marks : Marks) (from end : Cut VersionValue) → HasRangeCuts marks
    → IsNextEnd (Contains marks.ends.items) from end → IsRangeCut end
next-cut marks from end cuts next = elim next.found [
  | inl last ↦ subst IsRangeCut (sym last) tt
  | inr some ↦ cuts.ends end some.0
]

pub limit-cut : (marks : Marks) (limit : Cut VersionValue) → HasRangeCuts marks → IsUpTo marks.limits.items limit
    → IsRangeCut limit
limit-cut marks limit cuts up_to = elim up_to.found [
  | inl last ↦ subst IsRangeCut (sym last) tt
  | inr some ↦ cuts.limits limit some
]
