use Rattle.std.proofs.Common.{◌≡◌, ◌-◌, ◌<◌, ◌≤◌, ℕ, true, length}
use Rattle.npm_semver.specs.Private.ExtraViews.{is_character_at}
use Rattle.npm_semver.proofs.coercion.extras.characters_end.Given as goal

-- there are identifier characters so far
abbrev pub invariant-characters : goal.invariant-characters
invariant-characters l = record {
  from : l.start ≤ l.end;
  within : l.end ≤ length l.text;
  passed : (place : ℕ) → l.start ≤ place → place < l.end → is_character_at l.text place ≡ true;
}

abbrev pub decreases-characters : goal.decreases-characters
decreases-characters l = length l.text - l.end
