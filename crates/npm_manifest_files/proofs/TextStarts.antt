-- A text that begins with another, and the paths below a folder.
use Rattle.std.proofs.Common.{◌≡◌, ◌≢◌, ◌∙◌, ◌++◌, ℕ, List, [], Bool, true, false, Option, Some, None, ap, codes, drop}
use Rattle.std.proofs.Common.{if◌then◌else◌, length, refl, sym}
use Rattle.std.proofs.lemmas.Bool.Decides.{Decides-eqb}
use Rattle.std.proofs.lemmas.List.{append_cancel_left}
use Rattle.std.proofs.lemmas.Slice.Eq.{starts_is}
use Rattle.std.specs.List.{starts_with}
use Rattle.std.specs.Prelude.{nat_eq}
use Rattle.npm_texts.specs.Texts.{rest_after}

-- the text is the start and the rest
pub is_parted : (start text rest : List ℕ) → rest_after start text ≡ Some rest → text ≡ start ++ rest
is_parted start text rest is = at (starts_with nat_eq text start) refl is where
  at : (b : Bool) → b ≡ starts_with nat_eq text start
      → (if b then Some (drop (length start) text) else None) ≡ Some rest → text ≡ start ++ rest
  at true same found =
      let left : drop (length start) text ≡ rest = cc found in
      (starts_is Decides-eqb text start true same).0 refl ∙ ap (λ r. start ++ r) left
  at false same found = cc found

-- the text does not begin so
pub is_whole : (start text : List ℕ) → rest_after start text ≡ None → (rest : List ℕ) → text ≢ start ++ rest
is_whole start text is = at (starts_with nat_eq text start) refl is where
  at : (b : Bool) → b ≡ starts_with nat_eq text start
      → (if b then Some (drop (length start) text) else None) ≡ None → (rest : List ℕ) → text ≢ start ++ rest
  at true same none = cc none
  at false same none = λ rest e. cc ((starts_is Decides-eqb text start false same).1 rest e)
