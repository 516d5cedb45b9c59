-- The least version of a triple, and the least of all.
use Rattle.std.proofs.Common.{◌≡◌, ◌≢◌, ℕ, List, [], ◌∷◌, refl, arith, Less}
use Rattle.std.specs.Cmp.Lexicographic.{slice_cmp}
use Rattle.semver_texts.specs.Comparison.{identifier_cmp}
use Rattle.semver_texts.specs.IdentifierValue.{IdentifierValue, numeric}
use Rattle.semver_texts.specs.Order.{IsBelow, IsIdentifierBelow, IsListBelow}
use Rattle.semver_texts.specs.Order.{before_release, by_identifiers, by_major, by_minor, by_patch}
use Rattle.semver_texts.specs.Version.{HasSameTriple, VersionValue, least_of}
use Rattle.semver_texts.specs.Lemmas.Order.{identifier-Less, identifier_total, list-Less, then-cases}

-- no list with an identifier is below that of 0 alone
pub none-below_zeros : (x : IdentifierValue) (xs : List IdentifierValue)
    → ¬ (slice_cmp identifier_cmp (x ∷ xs) (numeric 0 ∷ []) ≡ Less)
none-below_zeros x [] e = grind (arith, then-cases)
none-below_zeros x (y ∷ xs) e = grind (arith, then-cases)

-- no version is below the least one of its triple
pub none-below_least : (w : VersionValue) (m n p : ℕ) → HasSameTriple w (least_of m n p) → ¬ IsBelow w (least_of m n p)
none-below_least w m n p t (by_major h) = let e : w.major ≡ m = t.major in omega arith
none-below_least w m n p t (by_minor a h) = let e : w.minor ≡ n = t.minor in omega arith
none-below_least w m n p t (by_patch a b h) = let e : w.patch ≡ p = t.patch in omega arith
none-below_least w m n p t (before_release s pre release) = release (λ e. cc e)
none-below_least w m n p t (by_identifiers s pre _ below) = none-listed w.pre_release pre below
  where
    none-listed : (xs : List IdentifierValue) → xs ≢ [] → ¬ IsListBelow IsIdentifierBelow xs (numeric 0 ∷ [])
    none-listed [] some below = some refl
    none-listed (x ∷ xs) some below = none-below_zeros x xs
        (list-Less identifier_cmp identifier_total IsIdentifierBelow identifier-Less (x ∷ xs) (numeric 0 ∷ []) below)

pub none-below_first : (w : VersionValue) → ¬ IsBelow w (least_of 0 0 0)
none-below_first w below = grind (arith, none-below_least w 0 0 0)
