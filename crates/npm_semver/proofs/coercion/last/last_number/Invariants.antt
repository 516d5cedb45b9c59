use Rattle.std.proofs.Common.{◌≡◌, ◌≤◌, ℕ, false, length}
use Rattle.npm_semver.specs.Coerce.{IsNumberAt, is_digit_at}
use Rattle.npm_semver.proofs.coercion.last.last_number.Given as goal

-- no number ends after this place, and no digit is there
abbrev pub invariant-numbers : goal.invariant-numbers
invariant-numbers l = record {
  within : l.end ≤ length l.text;
  after : is_digit_at l.text l.end ≡ false;
  last : (one other : ℕ) → IsNumberAt l.text one other → other ≤ l.end;
}

abbrev pub decreases-numbers : goal.decreases-numbers
decreases-numbers l = l.end
