-- Lists of marks, and rows of them.
use Rattle.std.proofs.Common.{◌≡◌, ◌++◌, ◌∙◌, ℕ, zero, suc, Bool, not, true, false, IsTrue, List, [], ◌∷◌, Option, Some, None, get_or, length, map, refl, ap, arith}
use Rattle.std.proofs.Math.ListN.{set}
use Rattle.version_solving.specs.declared.certificate.Values.{Values}
use Rattle.version_solving.specs.Solving.{Fits, Problem, Selection}
use Rattle.version_solving.specs.Private.Values.{IsExcluded, Spares, has, is_out}

-- ---- marks

pub more_marks : (xs : List Bool) (b : Bool) (k : ℕ) → get_or xs k false ≡ false → (k ≡ length xs → b ≡ false) → get_or (xs ++ b ∷ []) k false ≡ false
more_marks [] b zero old new = new refl
more_marks [] b (suc k) old new = refl
more_marks (x ∷ xs) b zero old new = old
more_marks (x ∷ xs) b (suc k) old new = more_marks xs b k old (λ same. new (omega arith))

pub unmarked : (xs : List Bool) (k : ℕ) → get_or xs k false ≡ true → get_or (map not xs) k false ≡ false
unmarked [] k is = absurd (cc)
unmarked (x ∷ xs) zero is = ap not is
unmarked (x ∷ xs) (suc k) is = unmarked xs k is

-- ---- rows

pub more_rows : (rows : List Values) (row : Values) (name : ℕ) (v : Option ℕ) → has row v ≡ false → is_out rows name v ≡ false
    → is_out (rows ++ row ∷ []) name v ≡ false
more_rows [] row zero v new old = new
more_rows [] row (suc k) v new old = refl
more_rows (r ∷ rows) row zero v new old = old
more_rows (r ∷ rows) row (suc k) v new old = more_rows rows row k v new old

other_rows : (rows : List Values) (row : Values) (at name : ℕ) (v : Option ℕ) → (name ≡ at → has row v ≡ false) → is_out rows name v ≡ false
    → is_out (set rows at row) name v ≡ false
other_rows [] row at name v new old = old
other_rows (r ∷ rows) row zero zero v new old = new refl
other_rows (r ∷ rows) row zero (suc name) v new old = old
other_rows (r ∷ rows) row (suc at) zero v new old = old
other_rows (r ∷ rows) row (suc at) (suc name) v new old = other_rows rows row at name v (λ same. new (omega arith)) old

pub spares_put : (rows : List Values) (row : Values) (at : ℕ) (s : Selection) → Spares rows s → has row (s at) ≡ false → Spares (set rows at row) s
spares_put rows row at s spares new name = other_rows rows row at name (s name) (λ same. ap (λ n. has row (s n)) same ∙ new) (spares name)

pub spares_more : (rows : List Values) (row : Values) (s : Selection) → ((v : Option ℕ) → has row v ≡ false) → Spares rows s → Spares (rows ++ row ∷ []) s
spares_more rows row s new spares name = more_rows rows row name (s name) (new (s name)) (spares name)

-- ---- what is excluded is not selected

pub not_marked : (p : Problem) (rows : List Values) (name : ℕ) (v : Option ℕ) (b : Bool) → (IsTrue b → IsExcluded p rows name v)
    → (s : Selection) → Fits p s → Spares rows s → s name ≡ v → b ≡ false
not_marked p rows name v false excluded s fits spares is = refl
not_marked p rows name v true excluded s fits spares is = absurd (excluded refl s fits spares is)

-- a set of which each value is excluded
pub row_spares : (p : Problem) (rows : List Values) (name : ℕ) (row : Values) → (IsTrue row.none → IsExcluded p rows name None)
    → ((s : Selection) → Fits p s → Spares rows s → (c : ℕ) → s name ≡ Some c → get_or row.candidates.items c false ≡ false)
    → (s : Selection) → Fits p s → Spares rows s → has row (s name) ≡ false
row_spares p rows name row none each s fits spares = by_value (s name) refl where
  by_value : (v : Option ℕ) → s name ≡ v → has row (s name) ≡ false
  by_value None is = ap (has row) is ∙ not_marked p rows name None row.none none s fits spares is
  by_value (Some c) is = ap (has row) is ∙ each s fits spares c is
