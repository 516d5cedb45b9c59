-- The numbers of a text, as a loop goes over its runs of digits.
use Rattle.std.proofs.Common.{◌≡◌, ◌+◌, ◌-◌, ◌<◌, ◌≤◌, ℕ, true, false, List, length, arith}
use Rattle.npm_semver.specs.Coerce.{IsNumberAt, is_digit_at}

-- all the digits from `start` up to `end`
pub record IsRun (text : List ℕ) (start end : ℕ) : Type 0 where
  pub to : start ≤ end
  pub within : end ≤ length text
  pub digits : (place : ℕ) → start ≤ place → place < end → is_digit_at text place ≡ true
  pub before : (place : ℕ) → place + 1 ≡ start → is_digit_at text place ≡ false
  pub after : is_digit_at text end ≡ false

run_start : (text : List ℕ) (start end other : ℕ) → IsRun text start end → start < end → IsNumberAt text other end
    → other ≡ start
run_start text start end other run some h =
    grind (arith, run.digits (other - 1), h.before (other - 1), h.digits (start - 1), run.before (start - 1))

-- a run that is no number is not one, and so none starts before its end
pub past_run : (text : List ℕ) (start end : ℕ) → IsRun text start end → ¬ ((start < end) × (end ≤ start + 16))
    → (one other : ℕ) → IsNumberAt text one other → start ≤ one → end + 1 ≤ one
past_run text start end run none one other h from =
    grind (arith, run.digits (one - 1), h.before (one - 1), run.digits other, h.digits end)

-- and none ends after its start
pub before_run : (text : List ℕ) (start end : ℕ) → IsRun text start end → ¬ ((start < end) × (end ≤ start + 16))
    → (one other : ℕ) → IsNumberAt text one other → other ≤ end → other + 1 ≤ start
before_run text start end run none one other h to =
    grind (arith, run.digits other, run_start text start end one run, h.digits (end - 1), run.before (end - 1))

-- so no number ends where it does
pub none_to : (text : List ℕ) (start end : ℕ) → IsRun text start end → ¬ ((start < end) × (end ≤ start + 16))
    → (one : ℕ) → ¬ IsNumberAt text one end
none_to text start end run none one h = grind (arith, before_run text start end run none one end h (omega arith))
