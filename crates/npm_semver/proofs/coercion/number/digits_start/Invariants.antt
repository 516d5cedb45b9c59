use Rattle.std.proofs.Common.{◌≡◌, ◌<◌, ◌≤◌, ℕ, true}
use Rattle.npm_semver.specs.Coerce.{is_digit_at}
use Rattle.npm_semver.proofs.coercion.number.digits_start.Given as goal

-- there are digits so far
abbrev pub invariant-digits : goal.invariant-digits
invariant-digits l = record {
  to : l.start ≤ l.end;
  digits : (place : ℕ) → l.start ≤ place → place < l.end → is_digit_at l.text place ≡ true;
}

abbrev pub decreases-digits : goal.decreases-digits
decreases-digits l = l.start
