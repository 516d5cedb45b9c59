-- What is told so far, of the next dependency, and of those that are left.
use Rattle.std.proofs.Common.{◌≡◌, ◌++◌, ◌∙◌, ℕ, List, [], ◌∷◌, Option, None, Some, ap, append_assoc, refl, sym}
use Rattle.std.proofs.Common.{◌+◌, ◌<◌, arith, drop, get_or, length, map, suc}
use Rattle.std.proofs.Math.Seq.{drop-cons}
use Rattle.std.specs.List.{filter_map}
use Rattle.npm_lock_reports.specs.Exceptions.{some_list}

module _ {E X Y : Type 0} (of : E → X) (told : X → Option Y) where
  first_told : (x : X) (others : List X) → filter_map told (x ∷ others) ≡ some_list (told x) ++ filter_map told others
  first_told x others = at (told x) refl where
    at : (found : Option Y) → told x ≡ found → filter_map told (x ∷ others) ≡ some_list (told x) ++ filter_map told others
    at (Some y) same = rw same refl
    at None same = rw same refl

  pub next_told : (all : List E) (i : ℕ) (d : E) (before whole after : List Y) → i < length all
      → before ++ filter_map told (map of (drop i all)) ≡ whole
      → after ≡ before ++ some_list (told (of (get_or all i d)))
      → after ++ filter_map told (map of (drop (i + 1) all)) ≡ whole
  next_told all i d before whole after small held more =
      let next : suc i ≡ i + 1 = omega arith in
      let here = get_or all i d in
      let left : drop i all ≡ here ∷ drop (i + 1) all =
      drop-cons all i d small ∙ ap (λ n. here ∷ drop n all) next in
      let later = filter_map told (map of (drop (i + 1) all)) in
      ap (λ l. l ++ later) more ∙ append_assoc before (some_list (told (of here))) later
      ∙ ap (λ l. before ++ l) (sym (first_told (of here) (map of (drop (i + 1) all))))
      ∙ ap (λ l. before ++ filter_map told (map of l)) (sym left) ∙ held
