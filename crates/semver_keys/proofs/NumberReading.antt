-- The number whose key some bytes begin with.
use Rattle.std.proofs.Common.{◌≡◌, ◌≢◌, ◌≤◌, ◌<◌, ◌/◌, ◌%◌, ◌*◌, ◌^◌, ◌+◌, ◌-◌, ◌++◌, ℕ, zero, suc, List, [], ◌∷◌, length, take, drop}
use Rattle.std.proofs.Common.{refl, sym, ap, subst, ◌∙◌, inl, inr, arith, add-one}
use Rattle.std.proofs.lemmas.Bool.{cases_lt}
use Rattle.std.proofs.lemmas.Grind.{common_steps}
use Rattle.std.proofs.lemmas.List.{length-append, take-append-drop}
use Rattle.std.proofs.Math.Seq.{take-append_seam}
use Rattle.std.specs.FinMap.{nat_cmp-IsAntisymmetric}
use Rattle.std.specs.Ordering.{nat_cmp}
use Rattle.semver_keys.specs.NumberKey.{byte_count, lowest_bytes, number_key}
use Rattle.semver_keys.specs.Lemmas.NumberOrder.{Fits, count-bound, count-fits, long-key, lowest-order, number-begins, short-key, words-fit}
use Rattle.semver_keys.specs.Private.Reading.{BeginsWithNoNumber, IsNumberRead}
use Rattle.semver_keys.proofs.NumberSteps.{long-is}
use Rattle.semver_keys.proofs.Parted.{parted}

-- more bytes hold the number too
pub fits-up : (k j n : ℕ) → k ≤ j → Fits k n → Fits j n
fits-up zero zero n h f = f
fits-up zero (suc j) n h f = fits-up zero j (n / 256) (omega arith) (omega arith)
fits-up (suc k) zero n h f = absurd (omega arith)
fits-up (suc k) (suc j) n h f = fits-up k j (n / 256) (omega arith) f

-- seven bytes hold 56 bits
seven : (n : ℕ) → Fits 7 n → n < 2 ^ 56
seven n f = omega arith

pub fits-below : (k n : ℕ) → k < 8 → Fits k n → n < 2 ^ 56
fits-below k n h f = seven n (fits-up k 7 n (omega arith) f)

-- one more byte
pub fits-more : (k n b : ℕ) → b < 256 → Fits k n → Fits (k + 1) (n * 256 + b)
fits-more k n b h f = let higher : n ≡ (n * 256 + b) / 256 = omega arith in rw add-one (subst (Fits k) higher f)

pub lowest-more : (k n b : ℕ) → b < 256 → lowest_bytes (k + 1) (n * 256 + b) ≡ lowest_bytes k n ++ b ∷ []
unfolding lowest_bytes
lowest-more k n b h = let higher : (n * 256 + b) / 256 ≡ n = omega arith in
    let lowest : (n * 256 + b) % 256 ≡ b = omega arith in
    ap (λ c. lowest_bytes c (n * 256 + b)) (add-one k) ∙ (λ i. lowest_bytes k (higher i) ++ lowest i ∷ [])

pub lowest-start : (n : ℕ) → lowest_bytes 0 n ≡ []
unfolding lowest_bytes
lowest-start n = refl

pub length-lowest : (k n : ℕ) → length (lowest_bytes k n) ≡ k
unfolding lowest_bytes
length-lowest zero n = refl
length-lowest (suc k) n = grind (arith, common_steps, length-lowest k (n / 256))

-- the bytes fix the number
pub lowest-same : (k m n : ℕ) → Fits k m → Fits k n → lowest_bytes k m ≡ lowest_bytes k n → m ≡ n
lowest-same k m n f g e = nat_cmp-IsAntisymmetric m n
    (parted _ _ [] [] (nat_cmp m n) (lowest-order k m n [] [] f g) (ap (λ bytes. bytes ++ []) e)).0

-- the bytes are the key of a number that is not one byte, and then others
pub record IsLongKey (n : ℕ) (r : List ℕ) (first : ℕ) (rest : List ℕ) : Type 0 where
  pub count : byte_count 8 n ≡ first - 240
  pub bytes : lowest_bytes (first - 240) n ++ r ≡ rest
  pub large : 240 ≤ n
  pub low : first - 240 ≤ 8

pub long-parts : (n first : ℕ) (r rest : List ℕ) → 240 ≤ first → number_key n ++ r ≡ first ∷ rest → IsLongKey n r first rest
long-parts n first r rest high e = elim (cases_lt n 240) [
  | inl short ↦
      let whole : n ∷ r ≡ first ∷ rest = sym (ap (λ key. key ++ r) (short-key n short)) ∙ e in
      let same : n ≡ first = cc in absurd (omega arith)
  | inr long ↦
      let whole : (byte_count 8 n + 240) ∷ (lowest_bytes (byte_count 8 n) n ++ r) ≡ first ∷ rest =
      sym (ap (λ key. key ++ r) (long-key n long ∙ long-is n)) ∙ e in
      let same : byte_count 8 n + 240 ≡ first = cc in
      let count : byte_count 8 n ≡ first - 240 = omega arith in
      let bytes : lowest_bytes (byte_count 8 n) n ++ r ≡ rest = cc in
      record {
        count = count;
        bytes = subst (λ c. lowest_bytes c n ++ r ≡ rest) count bytes;
        large = long;
        low = omega (arith, count-bound 8 n);
      }
]

-- no key of a number begins with a byte above 248
pub none-above : (first : ℕ) (rest : List ℕ) → 248 < first → BeginsWithNoNumber (first ∷ rest)
none-above first rest high n r h e = let it = long-parts n first r rest (omega arith) e in omega arith

-- its bytes are all there
pub none-short : (first : ℕ) (rest : List ℕ) → 240 ≤ first → length rest < first - 240
    → BeginsWithNoNumber (first ∷ rest)
none-short first rest high few n r h e =
    let it = long-parts n first r rest high e in
    let long = ap length it.bytes in
    omega (arith, length-append (lowest_bytes (first - 240) n) r, length-lowest (first - 240) n, long)

-- the number with the bytes that a part of the rest is
pub record HasBytes (m count : ℕ) (rest : List ℕ) : Type 0 where
  pub fits : Fits count m
  pub bytes : lowest_bytes count m ≡ take count rest

pub part-bytes : (m count taken : ℕ) (part rest : List ℕ) → taken ≡ count → part ≡ take taken rest → length part ≡ taken
    → Fits (length part) m → lowest_bytes (length part) m ≡ part → HasBytes m count rest
part-bytes m count taken part rest t e l f b = record {
  fits = subst (λ k. Fits k m) (l ∙ t) f;
  bytes = ap (λ k. lowest_bytes k m) (sym (l ∙ t)) ∙ b ∙ e ∙ ap (λ k. take k rest) t;
}

-- they fix the number
long-same : (n m first : ℕ) (r rest : List ℕ) → n < 2 ^ 64 → IsLongKey n r first rest
    → HasBytes m (first - 240) rest → n ≡ m
long-same n m first r rest h it has =
    let fits : Fits (first - 240) n = subst (λ c. Fits c n) it.count (count-fits 8 n (words-fit n h)) in
    let front : lowest_bytes (first - 240) n ≡ take (first - 240) (lowest_bytes (first - 240) n ++ r) =
    sym (ap (λ c. take c (lowest_bytes (first - 240) n ++ r)) (sym (length-lowest (first - 240) n))
    ∙ take-append_seam (lowest_bytes (first - 240) n) r) in
    lowest-same (first - 240) n m fits has.fits (front ∙ ap (take (first - 240)) it.bytes ∙ sym has.bytes)

-- no key has the bytes of a number that is one byte, or more bytes than the number needs
pub none-small : (m first : ℕ) (rest : List ℕ) → 240 ≤ first → HasBytes m (first - 240) rest → m < 240
    → BeginsWithNoNumber (first ∷ rest)
none-small m first rest high has low n r h k =
    let it = long-parts n first r rest high k in
    let same = long-same n m first r rest h it has in omega (arith, it.large, same)

pub none-padded : (m first : ℕ) (rest : List ℕ) → 240 ≤ first → HasBytes m (first - 240) rest
    → byte_count 8 m ≢ first - 240 → BeginsWithNoNumber (first ∷ rest)
none-padded m first rest high has other n r h k =
    let it = long-parts n first r rest high k in
    let same = long-same n m first r rest h it has in absurd (other (ap (byte_count 8) (sym same) ∙ it.count))

-- the number that the bytes are
pub long-read : (m first : ℕ) (rest others : List ℕ) → 240 ≤ first → m < 2 ^ 64
    → HasBytes m (first - 240) rest → others ≡ drop (first - 240) rest → 240 ≤ m → byte_count 8 m ≡ first - 240
    → IsNumberRead (first ∷ rest) m others
long-read m first rest others high word has f large count = record {
  word = word;
  whole = let head : byte_count 8 m + 240 ≡ first = omega arith in
      ap (λ key. key ++ others) (long-key m large ∙ long-is m)
      ∙ (λ i. head i ∷ (lowest_bytes (count i) m ++ f i))
      ∙ ap (λ bytes. first ∷ (bytes ++ drop (first - 240) rest)) has.bytes
      ∙ ap (λ bytes. first ∷ bytes) (take-append-drop (first - 240) rest);
}

pub short-read : (n : ℕ) (rest key : List ℕ) → n < 240 → key ≡ n ∷ rest → IsNumberRead key n rest
short-read n rest key h e = record { word = omega arith; whole = ap (λ k. k ++ rest) (short-key n h) ∙ sym e }

pub empty : (xs : List ℕ) → length xs ≡ 0 → xs ≡ []
empty [] h = refl
empty (x ∷ xs) h = absurd (omega arith)

-- each key has a byte
pub none-empty : (key : List ℕ) → key ≡ [] → BeginsWithNoNumber key
none-empty key empty n rest h e = let it = number-begins n rest in let whole = it.whole in cc
