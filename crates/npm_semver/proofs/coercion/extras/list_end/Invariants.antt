use Rattle.std.proofs.Common.{◌-◌, ◌≤◌, ◌⊎◌, ℕ, length}
use Rattle.npm_semver.specs.Private.ExtraViews.{IsListOf}
use Rattle.npm_semver.proofs.Versions.Extras.{GoesOn}
use Rattle.npm_semver.proofs.coercion.extras.list_end.Given as goal

-- there is a list so far, and each other one goes on after it
abbrev pub invariant-identifiers : goal.invariant-identifiers
invariant-identifiers l = record {
  within : l.end ≤ length l.text;
  listed : IsListOf l.extra l.text l.start l.end;
  others : (other : ℕ) → IsListOf l.extra l.text l.start other → (other ≤ l.end) ⊎ GoesOn l.extra l.text l.end other;
}

abbrev pub decreases-identifiers : goal.decreases-identifiers
decreases-identifiers l = length l.text - l.end
