use Rattle.std.proofs.Common.{◌≡◌, ◌+◌, ◌-◌, ◌≤◌, ℕ, false, length}
use Rattle.npm_semver.specs.Coerce.{IsNumberAt, is_digit_at}
use Rattle.npm_semver.proofs.coercion.first.number_from.Given as goal

-- no number starts before this place, and no digit is before it
abbrev pub invariant-numbers : goal.invariant-numbers
invariant-numbers l = record {
  after : l.from ≤ l.start;
  before : (place : ℕ) → place + 1 ≡ l.start → is_digit_at l.text place ≡ false;
  first : (one other : ℕ) → l.from ≤ one → IsNumberAt l.text one other → l.start ≤ one;
}

abbrev pub decreases-numbers : goal.decreases-numbers
decreases-numbers l = length l.text - l.start
