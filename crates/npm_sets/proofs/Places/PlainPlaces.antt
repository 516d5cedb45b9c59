-- Places in a text, and in the same text with a space for each white space character outside ASCII.
use Rattle.std.proofs.Common.{◌≡◌, ◌∙◌, ◌<◌, ◌+◌, ◌-◌, ℕ, suc, List, [], ◌∷◌, ◌++◌, ap, refl, sym, subst}
use Rattle.std.proofs.Common.{IsAscii, IsUtf8, IsCharBoundary, arith, chars, encode_utf8, encode_utf8_all, get_or, inl}
use Rattle.std.proofs.Common.{inr}
use Rattle.std.proofs.Common.{length, length-append, map}
use Rattle.std.proofs.lemmas.List.{append-nil, append_assoc, append_cancel_left, drop_at, take_at}
use Rattle.std.proofs.lemmas.Str.{IsCharBoundary-after_ascii, IsCharBoundary-start, IsUtf8-drop, IsUtf8-past_char}
use Rattle.std.proofs.lemmas.Str.{IsUtf8-take}
use Rattle.std.proofs.lemmas.Str.{chars-IsAscii, chars_past_char, encodes-IsAscii, encodes-append, encodes-chars}
use Rattle.std.proofs.lemmas.Str.{encodes_same}
use Rattle.std.proofs.lemmas.Str.{length-le-encodes}
use Rattle.npm_sets.specs.Private.RefusedViews.{IsAsciiEnd, IsLengthBefore, IsPlace}
use Rattle.npm_sets.specs.RefusedPlace.{IsRefusedAt}
use Rattle.npm_sets.specs.Spaces.{plain, plain_text, with_plain_spaces}
use Rattle.npm_sets.specs.declared.options.NpmOptions.{NpmOptions}
use Rattle.npm_sets.proofs.PlainSpaces.{map-ascii}

-- ---- texts in ASCII

ascii-cons : (b : ℕ) (rest : List ℕ) → b < 128 → IsAscii rest → IsAscii (b ∷ rest)
ascii-cons b rest h1 h2 = grind arith

ascii-parts : (one two : List ℕ) → IsAscii (one ++ two) → IsAscii one × IsAscii two
ascii-parts [] two ascii = (λ n. omega arith, ascii)
ascii-parts (b ∷ one) two ascii =
    let parts = ascii-parts one two (λ n. ascii (suc n)) in
    (ascii-cons b one (ascii 0) parts.0, parts.1)

plain-same : (text : List ℕ) → IsAscii text → plain_text text ≡ text
plain-same text ascii = ap encode_utf8_all (map-ascii text ascii) ∙ encodes-IsAscii text ascii

-- the place in such a text
pub ascii-place : (options : NpmOptions) (text : List ℕ) (place : ℕ) → IsAscii text → IsPlace options text place
    → IsRefusedAt options text place
ascii-place options text place h1 h2 = grind (arith, ascii-parts, chars-IsAscii, plain-same, encodes-IsAscii)

-- ---- other texts

-- after a byte in ASCII a text can be divided
boundary : (before after : List ℕ) → IsUtf8 (before ++ after) → IsAsciiEnd before
    → IsCharBoundary (before ++ after) (length before)
boundary before after utf8 (inl none) =
    subst (IsCharBoundary (before ++ after)) (sym (ap length none)) (IsCharBoundary-start (before ++ after) utf8)
boundary before after utf8 (inr last) =
    let front = last.0 in
    let one = last.1 in
    let whole : before ++ after ≡ front ++ (one ∷ after) =
    ap (λ (l : List ℕ). l ++ after) last.3 ∙ append_assoc front (one ∷ []) after in
    let here : get_or (before ++ after) (length front) 0 ≡ one =
    ap (λ (l : List ℕ). get_or l (length front) 0) whole ∙ get-middle front one after in
    let size : length before ≡ length front + 1 = ap length last.3 ∙ length-append front (one ∷ []) in
    let total = length-append before after in
    let low : get_or (before ++ after) (length front) 0 < 128 = subst (λ (b : ℕ). b < 128) (sym here) last.2 in
    subst (IsCharBoundary (before ++ after)) (sym size)
    (IsCharBoundary-after_ascii (before ++ after) (length front) utf8 (omega arith) low)
  where
    get-middle : (front : List ℕ) (one : ℕ) (after : List ℕ) → get_or (front ++ (one ∷ after)) (length front) 0 ≡ one
    get-middle [] one after = refl
    get-middle (b ∷ front) one after = get-middle front one after

-- characters that were changed, in two parts
map-parts : (f : ℕ → ℕ) (cs one two : List ℕ) → map f cs ≡ one ++ two
    → (before : List ℕ) × (after : List ℕ) × (cs ≡ before ++ after) × (map f before ≡ one) × (map f after ≡ two)
map-parts f cs [] two same = ([], cs, refl, refl, same)
map-parts f [] (b ∷ one) two same = absurd (cc same)
map-parts f (c ∷ cs) (b ∷ one) two same =
    let parts = cons-parts same in
    let more = map-parts f cs one two parts.1 in (
      c ∷ more.0,
      more.1,
      ap (λ (l : List ℕ). c ∷ l) more.2,
      (λ i. parts.0 i ∷ more.3 i),
      more.4,
    )
  where
    cons-parts : {x y : ℕ} {xs ys : List ℕ} → x ∷ xs ≡ y ∷ ys → (x ≡ y) × (xs ≡ ys)
    cons-parts e = (cc e, cc e)

-- the characters before and after a place of the text with plain spaces
pub record IsCut (text before after : List ℕ) : Type 0 where
  pub first : List ℕ
  pub last : List ℕ
  pub whole : chars text ≡ first ++ last
  pub first_is : plain_text first ≡ before
  pub last_is : plain_text last ≡ after

cut-at : (text before after : List ℕ) → IsUtf8 (with_plain_spaces text) → with_plain_spaces text ≡ before ++ after
    → IsAsciiEnd before → IsCut text before after
cut-at text before after utf8 same ascii =
    let whole = subst IsUtf8 same utf8 in
    let at = boundary before after whole ascii in
    let one : IsUtf8 before = subst IsUtf8 (take_at before after (length before) refl)
    (IsUtf8-take (before ++ after) (length before) whole at) in
    let two : IsUtf8 after = subst IsUtf8 (drop_at before after (length before) refl)
    (IsUtf8-drop (before ++ after) (length before) whole at) in
    let both : encode_utf8_all (one.0 ++ two.0) ≡ before ++ after =
    encodes-append one.0 two.0 ∙ ap (λ (l : List ℕ). l ++ encode_utf8_all two.0) one.1.1
    ∙ ap (λ (l : List ℕ). before ++ l) two.1.1 in
    let cs : map plain (chars text) ≡ one.0 ++ two.0 =
    encodes_same (map plain (chars text)) (one.0 ++ two.0) (same ∙ sym both) in
    let parts = map-parts plain (chars text) one.0 two.0 cs in
    record {
      first = parts.0;
      last = parts.1;
      whole = parts.2;
      first_is = ap encode_utf8_all parts.3 ∙ one.1.1;
      last_is = ap encode_utf8_all parts.4 ∙ two.1.1;
    }

-- the place in the text, from that in the text with plain spaces
pub wide-place : (options : NpmOptions) (text : List ℕ) (place offset : ℕ) → IsUtf8 (with_plain_spaces text)
    → IsPlace options (with_plain_spaces text) place → IsLengthBefore text place offset
    → IsRefusedAt options text offset
wide-place options text place offset utf8 p told = grind (arith, cut-at text p.before p.after utf8 p.whole p.ascii)

-- ---- the characters so far

-- `left` is what is left of the length of each beginning that is looked for
pub record CharactersPassed (text : List ℕ) (place left : ℕ) (rest : List ℕ) : Type 0 where
  pub done : List ℕ
  pub bytes : text ≡ encode_utf8_all done ++ rest
  pub whole : chars text ≡ done ++ chars rest
  pub utf8 : IsUtf8 rest
  pub reaches : (before after : List ℕ) → chars text ≡ before ++ after → length (plain_text before) ≡ place
      → (more : List ℕ) × (before ≡ done ++ more) × (length (plain_text more) ≡ left)

-- what follows the characters so far
follows : (text before after done more rest : List ℕ) → chars text ≡ before ++ after → before ≡ done ++ more
    → chars text ≡ done ++ rest → more ++ after ≡ rest
follows text before after done more rest whole is so = grind (arith, append_cancel_left, append_assoc done more after)

-- one character fewer
one-fewer : (c : ℕ) (rest after more done before : List ℕ) (left : ℕ) → more ++ after ≡ c ∷ rest → 0 < left
    → before ≡ done ++ more → length (plain_text more) ≡ left
    → (others : List ℕ) × (before ≡ (done ++ (c ∷ [])) ++ others)
    × (length (plain_text others) ≡ left - length (encode_utf8 (plain c)))
one-fewer c rest after [] done before left same some is size = grind arith
one-fewer c rest after (d ∷ others) done before left same some is size =
    grind (arith, length-append (encode_utf8 (plain d)) (plain_text others), append_assoc done (c ∷ []) others)

pub characters-more : (text : List ℕ) (place left : ℕ) (rest : List ℕ) (c : ℕ) (later : List ℕ) (now : ℕ)
    → CharactersPassed text place left rest → rest ≡ encode_utf8 c ++ later → 0 < left
    → now ≡ left - length (encode_utf8 (plain c)) → CharactersPassed text place now later
characters-more text place left rest c later now so step some fewer =
    let next = chars_past_char rest later c so.utf8 step in
    let one : encode_utf8_all (c ∷ []) ≡ encode_utf8 c = one-encoded c in
    record {
      done = so.done ++ (c ∷ []);
      bytes =
          so.bytes ∙ ap (λ (l : List ℕ). encode_utf8_all so.done ++ l) step
          ∙ sym (append_assoc (encode_utf8_all so.done) (encode_utf8 c) later)
          ∙ ap (λ (l : List ℕ). l ++ later) (ap (λ (l : List ℕ). encode_utf8_all so.done ++ l) (sym one)
          ∙ sym (encodes-append so.done (c ∷ [])));
      whole =
          so.whole ∙ ap (λ (l : List ℕ). so.done ++ l) next ∙ sym (append_assoc so.done (c ∷ []) (chars later));
      utf8 = IsUtf8-past_char rest later c so.utf8 step;
      reaches = λ before after whole size.
          let was = so.reaches before after whole size in
          let same = follows text before after so.done was.0 (chars rest) whole was.1 so.whole ∙ next in
          let less = one-fewer c (chars later) after was.0 so.done before left same some was.1 was.2 in
          (less.0, less.1, less.2 ∙ sym fewer);
    }
  where
    one-encoded : (c : ℕ) → encode_utf8_all (c ∷ []) ≡ encode_utf8 c
    one-encoded c = append-nothing (encode_utf8 c)
      where
        append-nothing : (l : List ℕ) → l ++ [] ≡ l
        append-nothing [] = refl
        append-nothing (x ∷ l) = ap (λ (k : List ℕ). x ∷ k) (append-nothing l)

none-plain : (more : List ℕ) → length (plain_text more) ≡ 0 → more ≡ []
none-plain [] none = grind arith
none-plain (c ∷ more) none = grind (arith, length-le-encodes (map plain (c ∷ more)))

-- where nothing is left to count
pub characters-done : (text : List ℕ) (place left : ℕ) (rest : List ℕ) (offset : ℕ)
    → CharactersPassed text place left rest → left ≡ 0 → offset ≡ length text - length rest
    → IsLengthBefore text place offset
characters-done text place left rest offset h1 h2 h3 = grind (arith, none-plain, append-nil, length-append)

-- or where no character is left
pub characters-end : (text : List ℕ) (place left : ℕ) (rest : List ℕ) (offset : ℕ)
    → CharactersPassed text place left rest → 0 < left → length rest ≡ 0 → IsLengthBefore text place offset
characters-end text place left rest offset so some none = λ before after whole size.
    let was = so.reaches before after whole size in
    let same = follows text before after so.done was.0 (chars rest) whole was.1 so.whole in
    let le = length-le-encodes (chars rest) in
    let encoded = ap length (encodes-chars rest so.utf8) in
    let empty : length (was.0 ++ after) ≡ length (chars rest) = ap length same in
    let parts = length-append was.0 after in
    let nothing : length was.0 ≡ 0 = omega arith in
    let value : length (plain_text was.0) ≡ 0 = ap (λ (l : List ℕ). length (plain_text l)) (no-length was.0 nothing) in
    absurd (omega (arith, was.2))
  where
    no-length : (l : List ℕ) → length l ≡ 0 → l ≡ []
    no-length [] e = refl
    no-length (x ∷ l) e = absurd (omega arith)
