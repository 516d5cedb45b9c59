-- A byte before an offset, which is a mark or white space.
use Rattle.std.proofs.Common.{◌≡◌, ◌-◌, ◌+◌, ◌<◌, ◌≤◌, ℕ, List, arith, get_or, length, subst, true}
use Rattle.std.proofs.lemmas.Option.{slice_get-get_or}
use Rattle.json_places.specs.Places.{IsAfterMark, is_mark, is_white_space, marked, spaced}

module _ (text : List ℕ) (at : ℕ) (some : 0 < at) (inside : at ≤ length text) where
  again : (at - 1) + 1 ≡ at
  again = omega (arith, some)

  small : at - 1 < length text
  small = omega (arith, some, inside)

  pub after_mark : is_mark (get_or text (at - 1) 0) ≡ true → IsAfterMark text at
  after_mark is = subst (IsAfterMark text) again
      (marked (at - 1) (get_or text (at - 1) 0) (slice_get-get_or text (at - 1) 0 small) is)

  pub after_space : is_white_space (get_or text (at - 1) 0) ≡ true → IsAfterMark text (at - 1) → IsAfterMark text at
  after_space is before = subst (IsAfterMark text) again
      (spaced (at - 1) (get_or text (at - 1) 0) (slice_get-get_or text (at - 1) 0 small) is before)
