-- Keys of numbers have the order of the numbers, whatever follows them.
use Rattle.std.proofs.Common.{◌≡◌, ◌≤◌, ◌<◌, ◌/◌, ◌%◌, ◌+◌, ◌^◌, ◌++◌, ◌==◌, Bool, true, false, ℕ, zero, suc, List, [], ◌∷◌, refl, sym, ap, ◌∙◌}
use Rattle.std.proofs.Common.{subst, inl, inr, arith, append_assoc, add-one, if◌then◌else◌}
use Rattle.std.proofs.lemmas.Bool.{cases_lt}
use Rattle.std.proofs.lemmas.Cmp.{by_ranked, ranked}
use Rattle.std.specs.Cmp.{nat_cmp_is}
use Rattle.std.specs.Ordering.{nat_cmp, ordering_then}
use Rattle.std.specs.declared.cmp.Ordering.TheVariants.{Less, Equal, Greater}
use Rattle.semver_keys.specs.KeyOrder.{key_cmp}
use Rattle.semver_keys.specs.NumberKey.{byte_count, long_number_key, lowest_bytes, number_key}
use Rattle.semver_keys.specs.Lemmas.FirstBytes.{first-as, first-bytes, then-then}

-- so many bytes hold the number
abbrev pub Fits : ℕ → ℕ → Type 0
Fits zero n = n ≡ 0
Fits (suc count) n = Fits count (n / 256)

-- the higher bytes decide, and then the lowest
pub digits-order : (m n : ℕ)
    → ordering_then (nat_cmp (m / 256) (n / 256)) (nat_cmp (m % 256) (n % 256)) ≡ nat_cmp m n
digits-order m n =
    let high = ranked (m / 256) (n / 256) _ refl in let low = ranked (m % 256) (n % 256) _ refl in
    by_ranked _ _ _ (nat_cmp (m / 256) (n / 256)) high
    (λ e h. rw e (nat_cmp_is m n Less (omega arith)))
    (λ e h. rw e (by_ranked _ _ _ (nat_cmp (m % 256) (n % 256)) low
    (λ f k. rw f (nat_cmp_is m n Less (omega arith))) (λ f k. rw f (nat_cmp_is m n Equal (omega arith)))
    (λ f k. rw f (nat_cmp_is m n Greater (omega arith)))))
    (λ e h. rw e (nat_cmp_is m n Greater (omega arith)))

-- as many bytes of two numbers have the order of the numbers, if they hold them
pub lowest-order : (count m n : ℕ) (r s : List ℕ) → Fits count m → Fits count n
    → key_cmp (lowest_bytes count m ++ r) (lowest_bytes count n ++ s) ≡ ordering_then (nat_cmp m n) (key_cmp r s)
unfolding lowest_bytes
lowest-order zero m n r s f g = ap (λ o. ordering_then o (key_cmp r s)) (nat_cmp_is m n Equal (f ∙ sym g))
lowest-order (suc count) m n r s f g =
    (λ i. key_cmp (append_assoc (lowest_bytes count (m / 256)) (m % 256 ∷ []) r i)
    (append_assoc (lowest_bytes count (n / 256)) (n % 256 ∷ []) s i))
    ∙ lowest-order count (m / 256) (n / 256) (m % 256 ∷ r) (n % 256 ∷ s) f g
    ∙ sym (then-then (nat_cmp (m / 256) (n / 256)) (nat_cmp (m % 256) (n % 256)) (key_cmp r s))
    ∙ ap (λ o. ordering_then o (key_cmp r s)) (digits-order m n)

-- the fewest bytes hold the number
pub count-fits : (limit n : ℕ) → Fits limit n → Fits (byte_count limit n) n
unfolding byte_count
count-fits zero n f = f
count-fits (suc limit) n f = by (n == 0) refl (count-fits limit (n / 256) f)
  where
    by : (b : Bool) → (n == 0) ≡ b → Fits (byte_count limit (n / 256)) (n / 256)
        → Fits (if b then 0 else byte_count limit (n / 256) + 1) n
    by true e rest = grind arith
    by false e rest = rw add-one rest

-- a greater number needs no fewer
pub count-rises : (limit m n : ℕ) → m ≤ n → byte_count limit m ≤ byte_count limit n
unfolding byte_count
count-rises zero m n h = omega arith
count-rises (suc limit) m n h = let higher : m / 256 ≤ n / 256 = omega arith in
    let rest = count-rises limit (m / 256) (n / 256) higher in grind arith

pub count-bound : (limit n : ℕ) → byte_count limit n ≤ limit
unfolding byte_count
count-bound zero n = omega arith
count-bound (suc limit) n = grind (arith, count-bound limit (n / 256))

-- eight bytes hold 64 bits
pub words-fit : (n : ℕ) → n < 2 ^ 64 → Fits 8 n
words-fit n h = omega arith

-- ---- keys

-- the first byte, and the others with what follows
abbrev long-first : ℕ → ℕ
long-first n = byte_count 8 n + 240

abbrev long-rest : ℕ → List ℕ → List ℕ
long-rest n r = lowest_bytes (byte_count 8 n) n ++ r

-- a key that says its number of bytes
long-order : (m n : ℕ) (r s : List ℕ) → m < 2 ^ 64 → n < 2 ^ 64
    → key_cmp (long_number_key m ++ r) (long_number_key n ++ s) ≡ ordering_then (nat_cmp m n) (key_cmp r s)
unfolding long_number_key
long-order m n r s h k =
    let order = ranked (byte_count 8 m) (byte_count 8 n) _ refl in
    by_ranked _ _ _ (nat_cmp (byte_count 8 m) (byte_count 8 n)) order
    (λ _ fewer. first-as Less (long-first m) (long-first n) m n (long-rest m r) (long-rest n s) (key_cmp r s) (omega arith)
    (grind (arith, count-rises 8 n m)) refl)
    (λ _ same. first-bytes Equal (long-first m) (long-first n) (long-rest m r) (long-rest n s) (omega arith)
    ∙ ap (λ count. key_cmp (lowest_bytes (byte_count 8 m) m ++ r) (lowest_bytes count n ++ s)) (sym same)
    ∙ lowest-order (byte_count 8 m) m n r s (count-fits 8 m (words-fit m h))
    (subst (λ count. Fits count n) (sym same) (count-fits 8 n (words-fit n k))))
    (λ _ more. first-as Greater (long-first m) (long-first n) m n (long-rest m r) (long-rest n s) (key_cmp r s)
    (omega arith) (grind (arith, count-rises 8 m n)) refl)

-- the key of a number that is one byte, and of any other
pub short-key : (n : ℕ) → n < 240 → number_key n ≡ n ∷ []
unfolding number_key
short-key n h = grind arith

pub long-key : (n : ℕ) → 240 ≤ n → number_key n ≡ long_number_key n
unfolding number_key
long-key n h = grind arith

-- a key of a number has a first byte, which is at most 248
pub record BeginsKey (key : List ℕ) : Type 0 where
  pub first : ℕ
  pub rest : List ℕ
  pub whole : key ≡ first ∷ rest
  pub low : first < 255

pub number-begins : (n : ℕ) (r : List ℕ) → BeginsKey (number_key n ++ r)
unfolding long_number_key
number-begins n r = elim (cases_lt n 240) [
  | inl short ↦ record { first = n; rest = r; whole = ap (λ key. key ++ r) (short-key n short); low = omega arith }
  | inr long ↦ record {
    first = byte_count 8 n + 240;
    rest = lowest_bytes (byte_count 8 n) n ++ r;
    whole = ap (λ key. key ++ r) (long-key n long);
    low = omega (arith, count-bound 8 n);
  }
]

-- the keys of two numbers
pub number-order : (m n : ℕ) (r s : List ℕ) → m < 2 ^ 64 → n < 2 ^ 64
    → key_cmp (number_key m ++ r) (number_key n ++ s) ≡ ordering_then (nat_cmp m n) (key_cmp r s)
unfolding long_number_key
number-order m n r s h k = elim (cases_lt m 240) [
  | inl short ↦ elim (cases_lt n 240) [
    | inl other ↦ λ i. key_cmp (short-key m short i ++ r) (short-key n other i ++ s)
    | inr other ↦ (λ i. key_cmp (short-key m short i ++ r) (long-key n other i ++ s))
        ∙ first-as Less m (long-first n) m n r (long-rest n s) (key_cmp r s) (omega arith) (omega arith) refl
  ]
  | inr long ↦ elim (cases_lt n 240) [
    | inl other ↦ (λ i. key_cmp (long-key m long i ++ r) (short-key n other i ++ s))
        ∙ first-as Greater (long-first m) n m n (long-rest m r) s (key_cmp r s) (omega arith) (omega arith) refl
    | inr other ↦ (λ i. key_cmp (long-key m long i ++ r) (long-key n other i ++ s)) ∙ long-order m n r s h k
  ]
]
