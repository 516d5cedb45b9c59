-- The text whose key some bytes begin with.
use Rattle.std.proofs.Common.{◌≡◌, ◌≢◌, ◌≤◌, ◌<◌, ◌+◌, ◌-◌, ◌++◌, ◌⊎◌, ℕ, List, [], ◌∷◌, length, take}
use Rattle.std.proofs.Common.{refl, sym, ap, subst, ◌∙◌, arith, append_assoc, Option, None, Some, IfNone}
use Rattle.std.proofs.lemmas.Grind.{flat_map-append}
use Rattle.std.proofs.lemmas.List.{append-nil, length-append}
use Rattle.std.proofs.Math.Seq.{take-append_seam}
use Rattle.std.specs.Str.{IsUtf8}
use Rattle.semver_keys.specs.IdentifierKey.{byte_key}
use Rattle.semver_keys.specs.Lemmas.IdentifierOrder.{low-byte, plain-byte}
use Rattle.semver_keys.specs.Private.Reading.{BeginsWithNoByte, BeginsWithNoText, IsByteRead, IsTextRead, written}
use Rattle.semver_keys.proofs.Parted.{written-key, written-parted}

-- ---- one byte

-- a byte that is written as it is, after which the rest follows
pub plain-read : (b : ℕ) (rest key : List ℕ) → 1 < b → key ≡ b ∷ rest → IsByteRead key b rest
plain-read b rest key h e = ap (λ k. k ++ rest) (plain-byte b h) ∙ sym e

pub low-read : (second : ℕ) (others rest : List ℕ) → second ≢ 0 → second ≤ 2 → rest ≡ second ∷ others
    → IsByteRead (1 ∷ rest) (second - 1) others
low-read second others rest some few e = let back : second - 1 + 1 ≡ second = omega arith in
    ap (λ k. k ++ others) (low-byte (second - 1) (omega arith)) ∙ ap (λ n. 1 ∷ n ∷ others) back
    ∙ ap (λ k. 1 ∷ k) (sym e)

-- a byte that is written as two
record IsLow (b : ℕ) (r rest : List ℕ) : Type 0 where
  low : b < 2
  second : (b + 1) ∷ r ≡ rest

low-parts : (b : ℕ) (r rest : List ℕ) → byte_key b ++ r ≡ 1 ∷ rest → IsLow b r rest
unfolding byte_key
low-parts b r rest e = record { low = grind arith; second = grind arith }

pub none-after_one : (rest : List ℕ) → rest ≡ [] → BeginsWithNoByte (1 ∷ rest)
none-after_one rest none b r e = let second = (low-parts b r rest e).second in cc

pub none-low : (second : ℕ) (others rest : List ℕ) → (second ≡ 0) ⊎ (2 < second) → rest ≡ second ∷ others
    → BeginsWithNoByte (1 ∷ rest)
none-low second others rest bad is b r e =
    let it = low-parts b r rest e in
    let whole : (b + 1) ∷ r ≡ second ∷ others = it.second ∙ is in
    let same : b + 1 ≡ second = cc in
    let few = it.low in omega arith

pub none-empty : (key : List ℕ) → key ≡ [] → BeginsWithNoByte key
unfolding byte_key
none-empty key none b r e = grind arith

pub none-end : (first : ℕ) (rest key : List ℕ) → first ≡ 0 → key ≡ first ∷ rest → BeginsWithNoByte key
unfolding byte_key
none-end first rest key zero is b r e = grind arith

pub shorter : (b : ℕ) (others rest : List ℕ) → IsByteRead rest b others → length others < length rest
unfolding byte_key
shorter b others rest e = let long = ap length e in grind (arith, length-append {A = ℕ})

-- ---- the bytes of a text

pub written-more : (text : List ℕ) (b : ℕ) (others rest key : List ℕ) → written text ++ rest ≡ key
    → IsByteRead rest b others → written (text ++ b ∷ []) ++ others ≡ key
written-more text b others rest key e r =
    ap (λ k. k ++ others) (flat_map-append byte_key text (b ∷ []) ∙ ap (λ k. written text ++ k) (append-nil (byte_key b)))
    ∙ append_assoc (written text) (byte_key b) others ∙ ap (λ k. written text ++ k) r ∙ e

written-same : (a b : List ℕ) → written a ≡ written b → a ≡ b
written-same a b e = (written-parted a b [] [] (none-empty [] refl) (none-empty [] refl) (ap (λ k. k ++ []) e)).0

-- the text is all there, and 0
pub text-read : (text rest others key : List ℕ) → written text ++ rest ≡ key → rest ≡ 0 ∷ others
    → IsTextRead key (take (length key - length rest) key) others
text-read text rest others key e z =
    let count : length key - length rest ≡ length (written text) =
    omega (arith, ap length e, length-append (written text) rest) in
    let front : written text ≡ take (length key - length rest) key =
    sym (ap (λ n. take n key) count ∙ ap (take (length (written text))) (sym e) ∙ take-append_seam (written text) rest) in
    record {
      is_written = record { text = text; bytes_are = front };
      whole = ap (λ k. k ++ 0 ∷ others) (sym front) ∙ ap (λ k. written text ++ k) (sym z) ∙ e;
    }

-- the rest begins with no text and no end of one
pub none-text : (text rest key : List ℕ) → written text ++ rest ≡ key → BeginsWithNoByte rest
    → ((r : List ℕ) → 0 ∷ r ≢ rest) → BeginsWithNoText key
none-text text rest key e none end other r k = end r (written-parted other text (0 ∷ r) rest
    (none-end 0 r (0 ∷ r) refl refl) none (sym (written-key other r) ∙ k ∙ sym e)).1

pub whole-text : (text rest bytes other : List ℕ) → written text ++ rest ≡ bytes → BeginsWithNoByte rest
    → written other ≡ bytes → rest ≡ []
whole-text text rest bytes other e none k = (sym (written-parted other text [] rest
    (none-empty [] refl) none (append-nil (written other) ∙ k ∙ sym e)).1)

-- what holds of a text that is written as the bytes holds of each
pub same-text : (P : List ℕ → Type 0) (text other bytes : List ℕ) → written text ≡ bytes → written other ≡ bytes → P other
    → P text
same-text P text other bytes e k h = subst P (written-same other text (k ∙ sym e)) h

-- a byte that is written as it is, after others that are
pub plain-more : (front : List ℕ) (b : ℕ) (more : List ℕ) → 2 ≤ b → written front ≡ front → more ≡ front ++ b ∷ []
    → written more ≡ more
plain-more front b more h e m = ap written m ∙ flat_map-append byte_key front (b ∷ [])
    ∙ (λ i. e i ++ (plain-byte b h i ++ [])) ∙ sym m

-- no text of UTF-8 is written as the bytes, if the bytes that are written so are none of UTF-8
pub none-utf8 : {T : Type 0} (found : Option T) (text bytes : List ℕ) → written text ≡ bytes → IfNone found (¬ IsUtf8 text)
    → IfNone found ((other : List ℕ) → IsUtf8 other → written other ≢ bytes)
none-utf8 (Some x) text bytes e bad = tt
none-utf8 None text bytes e bad = λ other utf8 k. bad (same-text IsUtf8 text other bytes e k utf8)
