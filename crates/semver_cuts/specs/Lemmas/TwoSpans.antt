-- Two spans: their intersection, when they share a cut, and when one contains all cuts of the other.
use native.Mathlib.Omega.{arith}
use Rattle.std.specs.Prelude.{◌≡◌, ◌⊎◌, ◌↔◌, ◌&&◌, Bool, IsTrue, List, [], ◌∷◌, refl}
use Rattle.std.specs.declared.cmp.Ordering.{Ordering}
use Rattle.std.specs.Ordering.{is_le, is_lt}
use Rattle.std.specs.Cmp.{IsTotalOrder}
use Rattle.std.proofs.lemmas.Bool.{and_parts}
use Rattle.semver_cuts.specs.declared.cut.Cut.{Cut}
use Rattle.semver_cuts.specs.Cut.{cut_cmp}
use Rattle.semver_cuts.specs.Ends.{Ends, HoldsCut, IsCutAtMost, IsCutBelow, IsInSpan}
use Rattle.semver_cuts.specs.SpanLists.{IsInSome, IsWithin}
use Rattle.semver_cuts.specs.CommonSpans.{common_ends, common_of, greater_cut, lesser_cut}
use Rattle.semver_cuts.specs.Sharing.{HaveCommonCut}
use Rattle.semver_cuts.specs.Lemmas.Ends.{at_most-from_le, at_most-or-below, at_most_refl}
use Rattle.semver_cuts.specs.Lemmas.Ends.{at_most_trans, below-at_most, below-from_lt, below-not-at_most}
use Rattle.semver_cuts.specs.Lemmas.Ends.{at_most-below, below_irrefl, below_trans, le-from_at_most, lt-from_below}

module _ {T : Type 0} {cmp : T → T → Ordering} (o : IsTotalOrder cmp) where
  -- ---- the greater and the lesser of two cuts

  -- a fact of the first if the second is less, and of the second if not, is one of the greater
  pub greater-is : (P : Cut T → Type 0) (c d : Cut T)
      → (IsCutBelow cmp d c → P c) → (IsCutAtMost cmp c d → P d) → P (greater_cut cmp c d)
  greater-is P c d h1 h2 = grind arith

  -- and the other way round of the lesser
  pub lesser-is : (P : Cut T → Type 0) (c d : Cut T)
      → (IsCutBelow cmp d c → P d) → (IsCutAtMost cmp c d → P c) → P (lesser_cut cmp c d)
  lesser-is P c d h1 h2 = grind arith

  -- the greater of two cuts is at most a third exactly if both are
  pub greater-at_most : (c d e : Cut T)
      → IsCutAtMost cmp (greater_cut cmp c d) e ↔ (IsCutAtMost cmp c e × IsCutAtMost cmp d e)
  greater-at_most c d e = search (arith, greater-is, at_most_trans o)

  -- a cut is below the lesser of two exactly if it is below both
  pub below-lesser : (c d e : Cut T)
      → IsCutBelow cmp e (lesser_cut cmp c d) ↔ (IsCutBelow cmp e c × IsCutBelow cmp e d)
  below-lesser c d e =
      lesser-is (λ k. IsCutBelow cmp e k ↔ (IsCutBelow cmp e c × IsCutBelow cmp e d)) c d
      (λ h. (λ p. (below_trans o e d c p h, p), λ both. both.1))
      (λ h. (λ p. (p, below-at_most o e c d p h), λ both. both.0))

  -- the greater of two cuts is below a third exactly if both are
  pub greater-below : (c d e : Cut T)
      → IsCutBelow cmp (greater_cut cmp c d) e ↔ (IsCutBelow cmp c e × IsCutBelow cmp d e)
  greater-below c d e =
      greater-is (λ k. IsCutBelow cmp k e ↔ (IsCutBelow cmp c e × IsCutBelow cmp d e)) c d
      (λ h. (λ p. (p, below_trans o d c e h p), λ both. both.0))
      (λ h. (λ p. (at_most-below o c d e h p, p), λ both. both.1))

  -- ---- the cuts of a span

  -- a span contains a cut exactly if it begins below where it ends
  pub holds-below : (span : Ends T) → HoldsCut cmp span ↔ IsCutBelow cmp span.lower span.upper
  holds-below span = grind arith

  -- a span that contains a cut lies in another exactly if it begins no earlier and ends no later
  pub within-ends : (one other : Ends T) → IsCutBelow cmp one.lower one.upper
      → IsWithin cmp one other ↔ (IsCutAtMost cmp other.lower one.lower × IsCutAtMost cmp one.upper other.upper)
  within-ends one other held =
      grind (arith, at_most_refl, at_most-or-below, below-not-at_most, below_irrefl, at_most_trans, below-at_most)

  -- ---- the intersection of two spans

  -- a cut lies between the common ends exactly if it lies in both spans
  pub common_ends-cuts : (one other : Ends T) (cut : Cut T)
      → IsInSpan cmp (common_ends cmp one other) cut ↔ (IsInSpan cmp one cut × IsInSpan cmp other cut)
  common_ends-cuts one other cut = grind (arith, greater-at_most, below-lesser)

  -- the common ends contain a cut exactly if some cut lies in both spans
  pub common_ends-hold : (one other : Ends T)
      → HaveCommonCut cmp one other
      ↔ IsCutBelow cmp (common_ends cmp one other).lower (common_ends cmp one other).upper
  common_ends-hold one other =
      let ends = common_ends cmp one other in (
        λ h. (holds-below ends).0 (h.0, (common_ends-cuts one other h.0).1 (h.1, h.2)),
        λ p. let both = (common_ends-cuts one other ends.lower).0
            (record { lower = at_most_refl o ends.lower; upper = p }) in (ends.lower, both.0, both.1),
      )

  -- two spans that contain cuts share one exactly if each begins below where the other ends
  pub shares-ends : (one other : Ends T) → IsCutBelow cmp one.lower one.upper → IsCutBelow cmp other.lower other.upper
      → HaveCommonCut cmp one other ↔ (IsCutBelow cmp one.lower other.upper × IsCutBelow cmp other.lower one.upper)
  shares-ends one other held held' = grind (arith, common_ends-hold one other, below-lesser, greater-below)

  -- the two tests of the program
  pub shares-by : (one other : Ends T) → IsCutBelow cmp one.lower one.upper → IsCutBelow cmp other.lower other.upper
      → (r : Bool) → r ≡ (is_lt (cut_cmp cmp one.lower other.upper) && is_lt (cut_cmp cmp other.lower one.upper))
      → IsTrue r ↔ HaveCommonCut cmp one other
  shares-by one other held held' r e = grind (arith, shares-ends, and_parts, below-from_lt cmp, lt-from_below cmp)

  pub covers-by : (one other : Ends T) → IsCutBelow cmp other.lower other.upper
      → (r : Bool) → r ≡ (is_le (cut_cmp cmp one.lower other.lower) && is_le (cut_cmp cmp other.upper one.upper))
      → IsTrue r ↔ IsWithin cmp other one
  covers-by one other held r e =
      let law = within-ends other one held in
      grind (arith, law, and_parts, at_most-from_le cmp, le-from_at_most cmp)

  -- ---- the common span, as a list of one span or none

  -- there is a common span exactly if some cut lies in both
  pub common_of-cases : (one other : Ends T) (P : List (Ends T) → Type 0)
      → (HaveCommonCut cmp one other → P (common_ends cmp one other ∷ [])) → (¬ HaveCommonCut cmp one other → P [])
      → P (common_of cmp one other)
  common_of-cases one other P some none = grind (arith, common_ends-hold one other)

  -- a cut lies in the common span exactly if it lies in both
  pub common_of-cuts : (one other : Ends T) (cut : Cut T)
      → IsInSome cmp (common_of cmp one other) cut ↔ (IsInSpan cmp one cut × IsInSpan cmp other cut)
  common_of-cuts one other cut = common_of-cases one other (λ spans. IsInSome cmp spans cut ↔
      (IsInSpan cmp one cut × IsInSpan cmp other cut)) (λ shared. grind (arith, common_ends-cuts one other cut))
      (λ apart. grind arith)

  -- there is none if one begins where the other ends or above
  pub common_of-none : (one other : Ends T) → IsCutBelow cmp one.lower one.upper → IsCutBelow cmp other.lower
      other.upper
      → IsCutAtMost cmp other.upper one.lower ⊎ IsCutAtMost cmp one.upper other.lower → [] ≡ common_of cmp one other
  common_of-none one other held held' apart = common_of-cases one other (λ spans. [] ≡ spans)
      (λ shared. grind (arith, shares-ends one other held held', below-not-at_most o)) (λ none. refl)

  -- and it begins below where it ends
  pub common_of-rising : (one other span : Ends T) → span ∷ [] ≡ common_of cmp one other
      → IsCutBelow cmp span.lower span.upper
  common_of-rising one other span = common_of-cases one other
      (λ spans. span ∷ [] ≡ spans → IsCutBelow cmp span.lower span.upper)
      (λ shared e. grind (arith, common_ends-hold one other)) (λ none e. cc e)
