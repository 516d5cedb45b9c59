-- The texts that a closure keeps, where it says of each whether it is mirrored and stays as it was.
use Rattle.std.proofs.Common.{◌≡◌, ◌↔◌, ℕ, List, [], ◌∷◌, Bool, true, false, IsTrue, length, map, refl, subst}
use Rattle.std.proofs.Common.{arith, sym}
use Rattle.std.specs.List.{items_where_true}
use Rattle.std.specs.List.Retain.{IsFiltered, ReturnsInTurn}
use Rattle.node_semver.specs.Cuts.{Ends}
use Rattle.node_semver.specs.Versions.{VersionValue}
use Rattle.node_semver_callers.specs.Mirrored.{AreMirrored, IsMirrored, kept, none, removed}

module _ {X F : Type 0} (R : F → X → Bool → F → Type 0) (now : X → List ℕ) (sets : List (Ends VersionValue)) (f : F)
    (each : (x : X) (b : Bool) (g : F) → R f x b g → (IsTrue b ↔ IsMirrored sets (now x)) × (g ≡ f)) where
  in-turn : (bs : List Bool) (xs : List X) (g : F) → length bs ≡ length xs → ReturnsInTurn R f bs xs g
      → AreMirrored sets (map now xs) (map now (items_where_true bs xs))
  in-turn [] [] g same turn = none
  in-turn [] (x ∷ xs) g same turn = absurd (cc same)
  in-turn (b ∷ bs) [] g same turn = absurd turn
  in-turn (true ∷ bs) (x ∷ xs) g same turn =
      let one = each x true turn.0 turn.1 in
      kept (now x) (map now xs) (map now (items_where_true bs xs)) (one.0.0 refl)
      (in-turn bs xs g (omega (arith, same)) (subst (λ (h : F). ReturnsInTurn R h bs xs g) one.1 turn.2))
  in-turn (false ∷ bs) (x ∷ xs) g same turn =
      let one = each x false turn.0 turn.1 in
      removed (now x) (map now xs) (map now (items_where_true bs xs)) (λ is. cc (one.0.1 is))
      (in-turn bs xs g (omega (arith, same)) (subst (λ (h : F). ReturnsInTurn R h bs xs g) one.1 turn.2))

  pub mirrored-filtered : (xs ys : List X) → IsFiltered R f xs ys → AreMirrored sets (map now xs) (map now ys)
  mirrored-filtered xs ys filtered =
      subst (λ (zs : List X). AreMirrored sets (map now xs) (map now zs)) (sym filtered.4)
      (in-turn filtered.0 xs filtered.1 filtered.2 filtered.3)
