-- The line and the column after one more byte.
use Rattle.std.proofs.Common.{◌≡◌, ◌≢◌, ◌==◌, ◌+◌, ◌∙◌, ◌++◌, ◌∷◌, ℕ, List, [], Bool, true, false, arith, ap, append-nil, append_assoc, cond, count_by, inl, inr, refl, sym}
use Rattle.std.proofs.lemmas.List.Elements.{All-nil, All-push}
use Rattle.std.proofs.lemmas.List.Sums.{sum_by-append}
use Rattle.json_places.specs.Places.{IsPlace, IsPlaceAfter, begins_character}

-- the count of one more byte
count_more : (p : ℕ → Bool) (bytes : List ℕ) (byte : ℕ)
    → count_by p (bytes ++ (byte ∷ [])) ≡ count_by p bytes + cond (p byte) 1 0
count_more p bytes byte = sum_by-append (λ x. cond (p x) 1 0) bytes (byte ∷ []) ∙ omega arith

counted : (p : ℕ → Bool) (bytes : List ℕ) (byte : ℕ) → p byte ≡ true
    → count_by p (bytes ++ (byte ∷ [])) ≡ count_by p bytes + 1
counted p bytes byte is = rw is at (count_more p bytes byte)

uncounted : (p : ℕ → Bool) (bytes : List ℕ) (byte : ℕ) → p byte ≡ false
    → count_by p (bytes ++ (byte ∷ [])) ≡ count_by p bytes
uncounted p bytes byte is = let more : count_by p (bytes ++ (byte ∷ [])) ≡ count_by p bytes + 0 =
    rw is at (count_more p bytes byte) in omega (arith, more)

-- a newline begins a line
pub after_newline : (before : List ℕ) (line column : ℕ) → IsPlaceAfter before line column
    → IsPlaceAfter (before ++ (10 ∷ [])) (line + 1) 1
after_newline before line column place = record {
  lines = before ++ (10 ∷ []);
  last = [];
  split = sym (append-nil (before ++ (10 ∷ [])));
  whole = inr (before, refl);
  unbroken = All-nil (λ byte. byte ≢ 10);
  counted_lines = let more = counted (λ byte. byte == 10) before 10 refl in omega (arith, more, place.counted_lines);
  counted_characters = refl;
}

-- another byte stays in its line
module _ (before : List ℕ) (line column byte : ℕ) (place : IsPlaceAfter before line column) (other : byte ≢ 10)
    (not_newline : (byte == 10) ≡ false) where
  pub after_character : begins_character byte ≡ true → IsPlaceAfter (before ++ (byte ∷ [])) line (column + 1)
  after_character begins = record {
    lines = place.lines;
    last = place.last ++ (byte ∷ []);
    split = ap (λ bytes. bytes ++ (byte ∷ [])) place.split ∙ append_assoc place.lines place.last (byte ∷ []);
    whole = place.whole;
    unbroken = All-push (λ byte. byte ≢ 10) place.last byte place.unbroken other;
    counted_lines = let same = uncounted (λ byte. byte == 10) before byte not_newline in omega (arith, same, place.counted_lines);
    counted_characters = let more = counted begins_character place.last byte begins in
        omega (arith, more, place.counted_characters);
  }

  pub within_character : begins_character byte ≡ false → IsPlaceAfter (before ++ (byte ∷ [])) line column
  within_character begins = record {
    lines = place.lines;
    last = place.last ++ (byte ∷ []);
    split = ap (λ bytes. bytes ++ (byte ∷ [])) place.split ∙ append_assoc place.lines place.last (byte ∷ []);
    whole = place.whole;
    unbroken = All-push (λ byte. byte ≢ 10) place.last byte place.unbroken other;
    counted_lines = let same = uncounted (λ byte. byte == 10) before byte not_newline in omega (arith, same, place.counted_lines);
    counted_characters = let same = uncounted begins_character place.last byte begins in
        omega (arith, same, place.counted_characters);
  }

-- every text begins so
pub at_start : (text : List ℕ) → IsPlace text (record { offset = 0; line = 1; column = 1 })
at_start text = record {
  inside = omega arith;
  after = record {
    lines = [];
    last = [];
    split = refl;
    whole = inl refl;
    unbroken = All-nil (λ byte. byte ≢ 10);
    counted_lines = refl;
    counted_characters = refl;
  };
}
