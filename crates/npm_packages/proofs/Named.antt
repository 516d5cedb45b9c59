-- The name of a package.
use Rattle.std.proofs.Common.{◌≡◌, ◌≢◌, ◌∙◌, ◌⊎◌, ◌==◌, ℕ, List, [], ◌∷◌, Some, true, false, arith, eqb→eq, inl, inr, length, refl, sym}
use Rattle.npm_packages.specs.Packages.{IsNamed, Package, placed, said}
use Rattle.npm_packages.proofs.Fronts.{same_end}

-- a package has one name
pub same_name : (named : Package) (a b : List ℕ) → IsNamed named a → IsNamed named b → a ≡ b
same_name named a b (said is some) (said other more) = cc (is, other)
same_name named a b (said is some) (placed (inl none) is_end) = cc (is, none)
same_name named a b (said is some) (placed (inr empty) is_end) =
    let same : a ≡ [] = cc (is, empty) in absurd (some same)
same_name named a b (placed (inl none) is_end) (said other more) = cc (other, none)
same_name named a b (placed (inr empty) is_end) (said other more) =
    let same : b ≡ [] = cc (other, empty) in absurd (more same)
same_name named a b (placed none is_end) (placed other other_end) = same_end named.folder a b is_end other_end

pub empty-of : {mark : _} (text : List ℕ) → mark ≡ (length text == 0) → mark ≡ true → text ≡ []
empty-of [] is empty = refl
empty-of (b ∷ text) is empty =
    let never : (length (b ∷ text) == 0) ≡ true = sym is ∙ empty in
    let zero : length (b ∷ text) ≡ 0 = eqb→eq _ _ (rw never tt) in
    absurd (omega (arith, zero))

pub not-empty : {mark : _} (text : List ℕ) → mark ≡ (length text == 0) → mark ≡ false → text ≢ []
not-empty [] is some empty = cc (is, some)
not-empty (b ∷ text) is some empty = cc empty
