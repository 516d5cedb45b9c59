-- Characters without those at their start, or at their end, that pass a test.
use Rattle.std.proofs.Common.{◌≡◌, ◌∙◌, ℕ, List, [], ◌∷◌, ◌++◌, Bool, true, false, ap, refl, sym, reverse, subst}
use Rattle.std.proofs.Common.{IsUtf8, chars, encode_utf8, length, take}
use Rattle.std.proofs.lemmas.List.{append-nil, reverse-append, reverse-reverse, take_at}
use Rattle.std.proofs.lemmas.Str.{IsCharBoundary-at_seam, IsUtf8-encode, IsUtf8-take, chars-append, chars-nil}
use Rattle.std.proofs.lemmas.Str.{chars_past_char}
use Rattle.std.specs.Char.{IsScalar}
use Rattle.npm_texts.specs.WhiteSpace.{without_end, without_start}

pub start-goes : (test : ℕ → Bool) (c : ℕ) (cs : List ℕ) → test c ≡ true
    → without_start test (c ∷ cs) ≡ without_start test cs
start-goes test c cs passes = rw passes refl

pub start-stays : (test : ℕ → Bool) (c : ℕ) (cs : List ℕ) → test c ≡ false → without_start test (c ∷ cs) ≡ c ∷ cs
start-stays test c cs fails = rw fails refl

backwards : (cs : List ℕ) (c : ℕ) → reverse (cs ++ (c ∷ [])) ≡ c ∷ reverse cs
backwards cs c = reverse-append cs (c ∷ [])

pub end-goes : (test : ℕ → Bool) (cs : List ℕ) (c : ℕ) → test c ≡ true
    → without_end test (cs ++ (c ∷ [])) ≡ without_end test cs
end-goes test cs c passes =
    ap (λ (l : List ℕ). reverse (without_start test l)) (backwards cs c)
    ∙ ap reverse (start-goes test c (reverse cs) passes)

pub end-stays : (test : ℕ → Bool) (cs : List ℕ) (c : ℕ) → test c ≡ false
    → without_end test (cs ++ (c ∷ [])) ≡ cs ++ (c ∷ [])
end-stays test cs c fails =
    ap (λ (l : List ℕ). reverse (without_start test l)) (backwards cs c)
    ∙ ap reverse (start-stays test c (reverse cs) fails) ∙ ap reverse (sym (backwards cs c))
    ∙ reverse-reverse (cs ++ (c ∷ []))

-- a text that ends with a character
pub last_char : (text front : List ℕ) (c : ℕ) → IsUtf8 text → IsScalar c → text ≡ front ++ encode_utf8 c
    → chars text ≡ chars front ++ (c ∷ [])
last_char text front c utf8 scalar whole =
    let last : IsUtf8 (encode_utf8 c) = IsUtf8-encode c scalar in
    let before : IsUtf8 front = subst IsUtf8
    (ap (λ (t : List ℕ). take (length front) t) whole ∙ take_at front (encode_utf8 c) (length front) refl)
    (IsUtf8-take text (length front) utf8 (IsCharBoundary-at_seam text front (encode_utf8 c) whole last)) in
    let one : chars (encode_utf8 c) ≡ c ∷ [] =
    chars_past_char (encode_utf8 c) [] c last (sym (append-nil (encode_utf8 c))) ∙ ap (λ (l : List ℕ). c ∷ l) chars-nil in
    ap chars whole ∙ chars-append front (encode_utf8 c) before ∙ ap (λ (l : List ℕ). chars front ++ l) one
