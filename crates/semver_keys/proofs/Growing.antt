-- A buffer that bytes are added to.
use Rattle.std.proofs.Common.{◌≡◌, ◌++◌, ◌≤◌, ℕ, List, Result, Ok, Err, OnErr, length, take, arith, sym, ap}
use Rattle.std.proofs.Common.{◌∙◌}
use Rattle.std.proofs.lemmas.Grind.{common_steps}
use Rattle.std.proofs.Math.Seq.{take-append_seam}
use Rattle.semver_keys.specs.Private.Grown.{IsGrown}

-- what holds of the buffer holds after an error too
pub at_err : {T E P : Type 0} (r : Result T E) → P → OnErr r P
at_err (Ok x) p = tt
at_err (Err e) p = p

-- no byte was added
pub grown_none : (old new : List ℕ) → new ≡ old → IsGrown old new
unfolding IsGrown
grown_none old new e = grind (arith, common_steps)

-- some bytes were added
pub grown_added : (old added new : List ℕ) → new ≡ old ++ added → IsGrown old new
unfolding IsGrown
grown_added old added new e = ap (take (length old)) e ∙ take-append_seam old added

take-less : (m n : ℕ) (xs : List ℕ) → m ≤ n → take m (take n xs) ≡ take m xs
take-less m n xs h = grind (arith, common_steps)

-- the buffer has grown twice
pub grown_twice : (old middle new : List ℕ) → IsGrown old middle → IsGrown middle new → IsGrown old new
unfolding IsGrown
grown_twice old middle new g h =
    let shorter : length old ≤ length middle = grind (arith, common_steps, ap length g) in
    sym (take-less (length old) (length middle) new shorter) ∙ ap (take (length old)) h ∙ g

-- some bytes were added, and then others
pub grown_after : (old added middle new : List ℕ) → middle ≡ old ++ added → IsGrown middle new → IsGrown old new
grown_after old added middle new e g = grown_twice old middle new (grown_added old added middle e) g

-- the buffer begins with the bytes that it had
pub grown_taken : (old new : List ℕ) → IsGrown old new → take (length old) new ≡ old
unfolding IsGrown
grown_taken old new g = g
