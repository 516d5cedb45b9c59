-- Worked examples: the bytes that are written into the caller's array.
use Rattle.std.proofs.Common.{◌≡◌, ℕ, List, [], ◌∷◌, refl, inl, inr, arith}
use Rattle.node_semver_c.specs.Printed.{IsPrinted, IsPut}

-- three bytes, put into an array of two: it stays as it was
abbrev Short : List ℕ → ℕ → Type 0
Short new count = IsPut (1 ∷ 2 ∷ 3 ∷ []) (8 ∷ 9 ∷ []) new count

pub short-stays : (new : List ℕ) (count : ℕ) → Short new count → (count ≡ 3) × (new ≡ 8 ∷ 9 ∷ [])
short-stays new count put = (put.counted, put.kept (omega arith))

pub short-there : Short (8 ∷ 9 ∷ []) 3
short-there = record { counted = refl; fits = λ le. absurd (omega (arith, le)); kept = λ _. refl }

-- two bytes, put into an array of three: its last byte stays
abbrev Long : List ℕ → ℕ → Type 0
Long new count = IsPut (1 ∷ 2 ∷ []) (7 ∷ 8 ∷ 9 ∷ []) new count

pub long-begins : (new : List ℕ) (count : ℕ) → Long new count → (count ≡ 2) × (new ≡ 1 ∷ 2 ∷ 9 ∷ [])
long-begins new count put = (put.counted, put.fits (omega arith))

pub long-there : Long (1 ∷ 2 ∷ 9 ∷ []) 2
long-there = record { counted = refl; fits = λ _. refl; kept = λ lt. absurd (omega (arith, lt)) }

-- a count of 0 for a text that is not empty: memory was refused, and all stay
pub refused-stays : (byte : ℕ) (text old new : List ℕ) → IsPrinted (byte ∷ text) old new 0 → new ≡ old
refused-stays byte text old new (inl put) = cc put.counted
refused-stays byte text old new (inr kept) = kept.1

pub refused-there : (text old : List ℕ) → IsPrinted text old old 0
refused-there text old = inr (refl, refl)
