-- An element of a list at a place.
use Rattle.std.proofs.Common.{◌≡◌, ◌<◌, ℕ, zero, suc, List, [], ◌∷◌, get_or, length, arith, sym, subst}
use Rattle.std.specs.List.{AllByRecursion}

-- what all elements are, the one at a place is
pub all-at : {X : Type 0} (P : X → Type 0) (xs : List X) (k : ℕ) (x : X) → k < length xs → x ≡ get_or xs k x
    → AllByRecursion P xs → P x
all-at P [] k x lt e all = absurd (omega arith)
all-at P (y ∷ xs) zero x lt e all = subst P (sym e) all.0
all-at P (y ∷ xs) (suc k) x lt e all = all-at P xs k x (omega arith) e all.1
