-- The loop of `are_merged`: whether each span ends below where the next one begins.
use native.Mathlib.Omega.{arith}
use Rattle.std.proofs.Common.{◌≡◌, ◌↔◌, ℕ, ◌+◌, ◌<◌, List, ◌∷◌, Ordering, drop, get_or, length}
use Rattle.semver_cuts.specs.Ends.{Ends, IsCutAtMost, IsCutBelow}
use Rattle.std.specs.Cmp.{IsTotalOrder}
use Rattle.semver_cuts.specs.Joined.{AreMerged}
use Rattle.semver_cuts.specs.Lemmas.Apart.{merged-tail}
use Rattle.semver_cuts.specs.Lemmas.Ends.{below-not-at_most}
use Rattle.semver_cuts.proofs.LoopSteps.{here}

module _ {T : Type 0} {cmp : T → T → Ordering} (o : IsTotalOrder cmp) (spans others : List (Ends T))
    (last next : Ends T)
    (k : ℕ) (seen : AreMerged cmp spans ↔ AreMerged cmp (last ∷ drop k others)) (low : k < length others)
    (at : next ≡ get_or others k next) where
  abbrev rest : List (Ends T)
  rest = drop (k + 1) others

  parts : drop k others ≡ next ∷ rest
  parts = here others k next low at

  -- the next span begins above where the last one ends
  pub seen-next : IsCutBelow cmp last.lower last.upper → IsCutBelow cmp last.upper next.lower
      → AreMerged cmp spans ↔ AreMerged cmp (next ∷ rest)
  seen-next rising below = grind (arith, merged-tail cmp, parts)

  -- or it does not
  pub seen-touching : IsCutAtMost cmp next.lower last.upper → ¬ AreMerged cmp spans
  seen-touching touches are = grind (arith, below-not-at_most o, parts)
