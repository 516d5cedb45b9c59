-- The least release that spans do not contain.
use Rattle.std.proofs.Common.{◌≡◌, ◌≢◌, ◌↔◌, ◌∙◌, ◌+◌, ◌<◌, ◌≤◌, ◌⊎◌, ℕ, List, [], ◌∷◌, Option, Some, None, arith, get_or}
use Rattle.std.proofs.Common.{ap, inl, inr, length, refl, subst, sym}
use Rattle.std.proofs.lemmas.List.{get_or_default}
use Rattle.std.specs.List.{Contains}
use Rattle.std.specs.Option.{MatchOption}
use Rattle.semver_cuts.specs.Ends.{Ends, IsCutAtMost, IsCutBelow, IsInSpan}
use Rattle.semver_cuts.specs.Joined.{AreMerged}
use Rattle.semver_cuts.specs.Lemmas.Ends.{at_most_trans}
use Rattle.semver_cuts.specs.Lemmas.Ends.{below-not-at_most, below_trans}
use Rattle.semver_texts.specs.Lemmas.Public.{version_total}
use Rattle.node_semver.specs.Cuts.{After, Before, Cut, End, IsInSome, Start}
use Rattle.node_semver.specs.Least.{IsNoneOf}
use Rattle.node_semver.specs.Ranges.{RangeContains}
use Rattle.node_semver.specs.Versions.{IsBelow, IsPlain, VersionValue, version_cmp}
use Rattle.npm_advisories.specs.Offers.{IsLeastOrNone}
use Rattle.npm_advisories.specs.Private.Covering.{AreSteps, IsAligned, IsFreeFrom, IsFreeOfBoth, IsPassed}
use Rattle.npm_advisories.proofs.ReleaseCuts.{below-cut, not-back, not-below_trans, not-self, reached-cut}
use Rattle.npm_advisories.proofs.SpanPlaces.{all-at, any-index, apart-at, end-free, index-any, rising-at}

abbrev Span : Type 0
Span = Ends VersionValue

-- ---- the least release, and the case that there is none

pub is-least : (Wanted : VersionValue → Type 0) (found : VersionValue) → IsPlain found → Wanted found
    → ((v : VersionValue) → Wanted v → ¬ IsBelow v found) → IsLeastOrNone Wanted (Some found)
is-least Wanted found plain wanted least = record {
  least = record { wanted = wanted; none_below = least };
  none = (λ is. absurd (cc is), λ none. absurd (none found wanted));
  build = plain.build;
}

pub is-none : (Wanted : VersionValue → Type 0) → IsNoneOf Wanted → IsLeastOrNone Wanted None
is-none Wanted none = record { least = tt; none = (λ is. none, λ not. refl); build = tt }

-- ---- one list of spans

-- each span ends before a release or at the end
pub end-aligned : (spans : List Span) → AreSteps spans → (span : Span) → Contains spans span → IsAligned span.upper
end-aligned spans steps span has = subst (λ (s : Span). IsAligned s.upper) has.2
    (all-at (λ (s : Span). IsAligned s.upper) spans has.0 span steps.aligned has.1)

module _ (spans : List Span) (steps : AreSteps spans) (from : VersionValue) (plain : IsPlain from) where
  -- no span contains the release
  pub free-here : ¬ RangeContains spans from → IsLeastOrNone (IsFreeFrom spans from) (Some from)
  free-here free = is-least (IsFreeFrom spans from) from plain
      (record { release = λ pre. pre plain.pre_release; reached = not-self from; free = free }) (λ v is. is.reached)

  module _ (span : Span) (has : Contains spans span) (inside : IsInSpan version_cmp span (Before from)) where
    -- the span contains the later versions up to its end
    contained : (v : VersionValue) → ¬ IsBelow v from → IsCutBelow version_cmp (Before v) span.upper
        → RangeContains spans v
    contained v not below = index-any (λ (s : Span). IsInSpan version_cmp s (Before v)) spans has.0 span has.1
        (subst (λ (s : Span). IsInSpan version_cmp s (Before v)) (sym has.2) (record {
          lower = at_most_trans version_total span.lower (Before from) (Before v) inside.lower (reached-cut v from not);
          upper = below;
        }))

    -- then it is the one where the span ends
    pub free-next : (w : VersionValue) → span.upper ≡ Before w → IsPlain w
        → IsLeastOrNone (IsFreeFrom spans from) (Some w)
    free-next w is plain_end =
        let later : IsBelow from w =
        (below-cut from w).1 (subst (IsCutBelow version_cmp (Before from)) is inside.upper) in
        is-least (IsFreeFrom spans from) w plain_end (record {
          release = λ pre. pre plain_end.pre_release;
          reached = not-back from w later;
          free = subst (λ c. ¬ IsInSome version_cmp spans c) is (end-free spans steps.merged span has);
        })
        (λ v wanted below. wanted.free (contained v wanted.reached
        (subst (IsCutBelow version_cmp (Before v)) (sym is) ((below-cut v w).0 below))))

    -- or there is none
    pub free-none : IsAligned span.upper → ((w : VersionValue) → span.upper ≢ Before w)
        → IsLeastOrNone (IsFreeFrom spans from) None
    free-none aligned other = is-none (IsFreeFrom spans from) (λ v wanted. wanted.free
        (contained v wanted.reached (by-end span.upper refl aligned v)))
      where
        by-end : (c : Cut VersionValue) → span.upper ≡ c → IsAligned c → (v : VersionValue)
            → IsCutBelow version_cmp (Before v) span.upper
        by-end End is aligned v = subst (IsCutBelow version_cmp (Before v)) (sym is) refl
        by-end Start is aligned v = let no : IsCutBelow version_cmp (Before from) Start =
            subst (IsCutBelow version_cmp (Before from)) is inside.upper in absurd (cc no)
        by-end (Before w) is aligned v = absurd (other w is)
        by-end (After w) is aligned v = absurd aligned

    -- the one at the end, or none
    pub free-around : IsAligned span.upper → (found : Option VersionValue)
        → MatchOption found ((w : VersionValue) → span.upper ≢ Before w) (λ w. (span.upper ≡ Before w) × IsPlain w)
        → IsLeastOrNone (IsFreeFrom spans from) found
    free-around aligned (Some w) is = free-next w is.0 is.1
    free-around aligned None other = free-none aligned other

-- the release of a cut just before one is that one
pub at-found : (found : VersionValue) (at : Option VersionValue)
    → MatchOption at ((v : VersionValue) → Before found ≢ Before v) (λ v. (Before found ≡ Before v) × IsPlain v)
    → at ≡ Some found
at-found found (Some v) is = let same : found ≡ v = cc is.0 in ap (λ w. Some w) (sym same)
at-found found None other = absurd (other found refl)

-- ---- two lists

-- the releases from this one on are past the first spans of the others, and each that is wanted is one of them
pub record IsNext (covered others : List Span) (from : VersionValue) (i : ℕ) (next : VersionValue) : Type 0 where
  pub plain : IsPlain next
  pub reached : ¬ IsBelow next from
  pub past : (v : VersionValue) → ¬ IsBelow v next → (k : ℕ) (d : Span) → k < i → k < length others
      → ¬ IsCutBelow version_cmp (Before v) (get_or others k d).upper
  pub later : (v : VersionValue) → IsFreeOfBoth covered others from v → ¬ IsBelow v next

module _ (covered others : List Span) (merged : AreMerged version_cmp others) (from : VersionValue) where
  pub next-first : IsPlain from → IsNext covered others from 0 from
  next-first plain = record {
    plain = plain;
    reached = not-self from;
    past = λ v not k d less lt. absurd (omega (arith, less));
    later = λ v wanted. wanted.free.reached;
  }

  module _ (i : ℕ) (next : VersionValue) (is : IsNext covered others from i next) where
    -- one that is wanted is free of the spans from there on
    wanted-free : (v : VersionValue) → IsFreeOfBoth covered others from v → IsFreeFrom covered next v
    wanted-free v wanted = record {
      release = wanted.free.release;
      reached = is.later v wanted;
      free = wanted.free.free;
    }

    pub none-wanted : IsLeastOrNone (IsFreeFrom covered next) None
        → IsLeastOrNone (IsFreeOfBoth covered others from) None
    none-wanted none = is-none (IsFreeOfBoth covered others from)
        (λ v wanted. none.none.0 refl v (wanted-free v wanted))

    -- a release free of the spans, before the next of the others
    module _ (found : VersionValue) (free : IsLeastOrNone (IsFreeFrom covered next) (Some found)) where
      wanted-from : (¬ RangeContains others found) → IsFreeOfBoth covered others from found
      wanted-from other = record {
        free = record {
          release = free.least.wanted.release;
          reached = not-below_trans found next from free.least.wanted.reached is.reached;
          free = free.least.wanted.free;
        };
        other = other;
      }

      pub found-plain : IsPlain found
      found-plain = record {
        pre_release = no-prerelease found.pre_release free.least.wanted.release;
        build = free.build;
      } where
        no-prerelease : {X : Type 0} (xs : List X) → ¬ (xs ≢ []) → xs ≡ []
        no-prerelease [] not = refl
        no-prerelease (x ∷ xs) not = absurd (not (λ none. cc none))

      least-from : (¬ RangeContains others found) → IsLeastOrNone (IsFreeOfBoth covered others from) (Some found)
      least-from other = is-least (IsFreeOfBoth covered others from) found found-plain (wanted-from other)
          (λ v wanted. free.least.none_below v (wanted-free v wanted))

      -- a span of the others before the place does not contain it
      before-place : (k : ℕ) (d : Span) → k < i → k < length others
          → ¬ IsInSpan version_cmp (get_or others k d) (Before found)
      before-place k d less lt inside = is.past found free.least.wanted.reached k d less lt inside.upper

      pub found-before : (other : Span) → i < length others → other ≡ get_or others i other
          → IsCutBelow version_cmp (Before found) other.lower
          → IsLeastOrNone (IsFreeOfBoth covered others from) (Some found)
      found-before other lt at below = least-from (λ some.
          let one = any-index (λ (s : Span). IsInSpan version_cmp s (Before found)) others some in
          let k = one.0 in
          let inside : IsInSpan version_cmp (get_or others k other) (Before found) = one.2 other in
          elim (order k i) [
            | inl less ↦ before-place k other less one.1 inside
            | inr rest ↦ elim rest [
              | inl same ↦ below-not-at_most version_total (Before found) other.lower below
                  (subst (λ (s : Span). IsCutAtMost version_cmp s.lower (Before found)) (sym at)
                  (subst (λ n. IsCutAtMost version_cmp (get_or others n other).lower (Before found)) same
                  inside.lower))
              | inr more ↦ below-not-at_most version_total (Before found) (get_or others k other).lower
                  (below_trans version_total (Before found) other.lower (get_or others k other).lower below
                  (below_trans version_total other.lower other.upper (get_or others k other).lower
                  (subst (λ (s : Span). IsCutBelow version_cmp s.lower s.upper) (sym at)
                  (rising-at others merged i other lt))
                  (subst (λ (s : Span). IsCutBelow version_cmp s.upper (get_or others k other).lower) (sym at)
                  (apart-at others merged i k other more one.1)))) inside.lower
            ]
          ])
        where
          order : (k n : ℕ) → (k < n) ⊎ ((k ≡ n) ⊎ (n < k))
          order k n = grind arith

      -- a release free of the spans that is not before the next of the others: one that is wanted is past that
      past-span : (other : Span) → i < length others → other ≡ get_or others i other
          → IsCutAtMost version_cmp other.lower (Before found) → (v : VersionValue)
          → IsFreeOfBoth covered others from v → ¬ IsCutBelow version_cmp (Before v) other.upper
      past-span other lt at begun v wanted below = wanted.other
          (index-any (λ (s : Span). IsInSpan version_cmp s (Before v)) others i other lt
          (subst (λ (s : Span). IsInSpan version_cmp s (Before v)) at (record {
            lower = at_most_trans version_total other.lower (Before found) (Before v) begun
                (reached-cut v found (free.least.none_below v (wanted-free v wanted)));
            upper = below;
          })))

      -- none is wanted if that goes on to the end
      pub none-past : (other : Span) → i < length others → other ≡ get_or others i other
          → IsCutAtMost version_cmp other.lower (Before found) → other.upper ≡ End
          → IsLeastOrNone (IsFreeOfBoth covered others from) None
      none-past other lt at begun end = is-none (IsFreeOfBoth covered others from) (λ v wanted.
          past-span other lt at begun v wanted (subst (IsCutBelow version_cmp (Before v)) (sym end) refl))

      -- the step past that span
      pub next-past : (other : Span) → i < length others → other ≡ get_or others i other
          → IsCutAtMost version_cmp other.lower (Before found) → (new : VersionValue)
          → IsPassed other.upper next new → IsNext covered others from (i + 1) new
      next-past other lt at begun new passed = record {
        plain = passed.plain;
        reached = not-below_trans new next from passed.reached is.reached;
        past = λ v not k d less within. elim (split k less) [
          | inl before ↦ is.past v (not-below_trans v new next not passed.reached) k d before within
          | inr same ↦ λ below. passed.past v not
              (subst (λ (s : Span). IsCutBelow version_cmp (Before v) s.upper)
              (ap (λ n. get_or others n d) same ∙ get_or_default others i d other lt ∙ sym at) below)
        ];
        later = λ v wanted. passed.least v (is.later v wanted) (past-span other lt at begun v wanted);
      } where
        split : (k : ℕ) → k < i + 1 → (k < i) ⊎ (k ≡ i)
        split k less = grind arith

    -- after all of the others
    pub wanted-all : length others ≤ i → (v : VersionValue)
        → IsFreeFrom covered next v ↔ IsFreeOfBoth covered others from v
    wanted-all done v = (
      λ free. record {
        free = record {
          release = free.release;
          reached = not-below_trans v next from free.reached is.reached;
          free = free.free;
        };
        other = λ some.
            let one = any-index (λ (s : Span). IsInSpan version_cmp s (Before v)) others some in
            let d : Span = record { lower = Start; upper = End } in
            is.past v free.reached one.0 d (omega (arith, one.1)) one.1 (one.2 d).upper;
      },
      wanted-free v,
    )
