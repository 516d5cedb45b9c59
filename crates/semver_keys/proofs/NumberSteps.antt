-- The bytes of a number, one at a time.
use Rattle.std.proofs.Common.{◌≡◌, ◌≢◌, ◌⊎◌, ◌/◌, ◌%◌, ◌+◌, ◌-◌, ◌++◌, ℕ, zero, suc, [], ◌∷◌}
use Rattle.std.proofs.Common.{refl, ap, ◌∙◌, arith}
use Rattle.semver_keys.specs.NumberKey.{byte_count, long_number_key, lowest_bytes}

pub count-none : (limit n : ℕ) → (limit ≡ 0) ⊎ (n ≡ 0) → 0 ≡ byte_count limit n
unfolding byte_count
count-none zero n h = refl
count-none (suc limit) n h = grind arith

count-more : (limit n : ℕ) → n ≢ 0 → byte_count limit (n / 256) + 1 ≡ byte_count (suc limit) n
unfolding byte_count
count-more limit n h = grind arith

pub count-one : (limit n : ℕ) → limit ≢ 0 → n ≢ 0 → byte_count (limit - 1) (n / 256) + 1 ≡ byte_count limit n
count-one zero n h k = absurd (h refl)
count-one (suc limit) n h k =
    let e : suc limit - 1 ≡ limit = omega arith in ap (λ l. byte_count l (n / 256) + 1) e ∙ count-more limit n k

pub lowest-none : (count n : ℕ) → count ≡ 0 → lowest_bytes count n ≡ []
unfolding lowest_bytes
lowest-none zero n h = refl
lowest-none (suc count) n h = absurd (omega arith)

pub lowest-one : (count n : ℕ) → count ≢ 0
    → lowest_bytes count n ≡ lowest_bytes (count - 1) (n / 256) ++ n % 256 ∷ []
unfolding lowest_bytes
lowest-one zero n h = absurd (h refl)
lowest-one (suc count) n h =
    let e : count ≡ suc count - 1 = omega arith in ap (λ c. lowest_bytes c (n / 256) ++ n % 256 ∷ []) e

pub long-is : (n : ℕ) → long_number_key n ≡ (byte_count 8 n + 240) ∷ lowest_bytes (byte_count 8 n) n
unfolding long_number_key
long-is n = refl
