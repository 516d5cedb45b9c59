-- The intersection of one span with merged spans: it is empty for those below the span and those above it.
use Rattle.semver_cuts.specs.Lemmas.Apart.{lowers-above, lowers-at_least}
use Rattle.semver_cuts.specs.Lemmas.Apart.{lowers-above, lowers-at_least}
use native.Mathlib.Omega.{arith}
use Rattle.std.proofs.Common.{◌≡◌, ◌<◌, ◌+◌, ℕ, List, [], ◌∷◌, ◌++◌, get_or, length, take, drop, subst}
use Rattle.std.proofs.Common.{refl, inl, Ordering}
use Rattle.std.proofs.lemmas.List.{append-nil, take-append-drop}
use Rattle.std.proofs.lemmas.List.Concat.{flat_map-append}
use Rattle.std.specs.Cmp.{IsTotalOrder}
use Rattle.std.specs.List.{AllByRecursion}
use Rattle.semver_cuts.specs.Ends.{Ends, IsCutAtMost}
use Rattle.semver_cuts.specs.CommonSpans.{common_of, common_with}
use Rattle.semver_cuts.specs.Sharing.{HaveCommonCut}
use Rattle.semver_cuts.specs.Joined.{AreMerged}
use Rattle.semver_cuts.specs.Lemmas.Apart.{apart-above, merged-drop}
use Rattle.semver_cuts.specs.Lemmas.Ends.{at_most-below, at_most_trans, below-not-at_most}
use Rattle.semver_cuts.specs.Lemmas.Lists.{all_map}
use Rattle.semver_cuts.specs.Lemmas.TwoSpans.{common_of-cases}
use Rattle.semver_cuts.proofs.LoopSteps.{here}

module _ {T : Type 0} {cmp : T → T → Ordering} (o : IsTotalOrder cmp) (one : Ends T) where
  abbrev IsApart : Ends T → Type 0
  IsApart other = ¬ HaveCommonCut cmp one other

  none-common : (others : List (Ends T)) → AllByRecursion IsApart others → common_with cmp one others ≡ []
  none-common [] all = refl
  none-common (other ∷ others) all = common_of-cases o one other (λ spans. spans ++ common_with cmp one others ≡ [])
      (λ shared. absurd (all.0 shared)) (λ none. none-common others all.1)

  before : (other : Ends T) → IsCutAtMost cmp other.upper one.lower → IsApart other
  before other ended shared = grind arith

  behind : (other : Ends T) → IsCutAtMost cmp one.upper other.lower → IsApart other
  behind other begins shared = grind (arith, below-not-at_most o, at_most_trans o)

  parted : (others : List (Ends T)) (k : ℕ)
      → common_with cmp one (take k others) ++ common_with cmp one (drop k others) ≡ common_with cmp one others
  parted others k = grind (arith, flat_map-append (common_of cmp one), take-append-drop)

  -- those that end at or below the lower end of the span can be left out
  pub common_with-from : (others : List (Ends T)) (k : ℕ)
      → AllByRecursion (λ (other : Ends T). IsCutAtMost cmp other.upper one.lower) (take k others)
      → common_with cmp one (drop k others) ≡ common_with cmp one others
  common_with-from others k ended = grind (
    arith,
    none-common (take k others)
        (all_map _ IsApart before (take k others) ended),
    parted others k,
  )

  -- and those from the first one on that begins at or above its upper end
  pub common_with-until : (others : List (Ends T)) (k : ℕ) (other : Ends T) → k < length others
      → other ≡ get_or others k other → AreMerged cmp others → IsCutAtMost cmp one.upper other.lower
      → common_with cmp one (take k others) ≡ common_with cmp one others
  common_with-until others k other lt e are begins =
      let rest : List (Ends T) = drop (k + 1) others in
      let parts : drop k others ≡ other ∷ rest = here others k other lt e in
      let are' = subst (AreMerged cmp) parts (merged-drop cmp k others are) in
      let low = at_most-below o one.upper other.lower other.upper begins are'.rising.0 in
      let above = lowers-above o one.upper other.upper rest (inl low)
      (apart-above o other rest are'.apart are'.rising.1) in
      let apart = all_map _ IsApart behind rest (lowers-at_least o one.upper rest above) in
      grind (arith, append-nil, none-common (other ∷ rest) (behind other begins, apart), parted others k)
