use Rattle.std.proofs.Common.{◌≡◌, ◌+◌, ◌-◌, ℕ, false, length}
use Rattle.npm_semver.specs.Coerce.{is_digit_at}
use Rattle.npm_semver.specs.Private.ExtraViews.{IsFoundBefore}
use Rattle.npm_semver.proofs.coercion.last_full.last_full.Given as goal

abbrev pub invariant-numbers : goal.invariant-numbers
invariant-numbers l = record {
  before : (place : ℕ) → place + 1 ≡ l.from → is_digit_at l.text place ≡ false;
  found : IsFoundBefore l.text l.from l.found;
}

abbrev pub decreases-numbers : goal.decreases-numbers
decreases-numbers l = length l.text + 1 - l.from
