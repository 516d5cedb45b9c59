-- Why a call has no result for a range text.
use Rattle.std.specs.Prelude.{◌⊎◌, ℕ, List}
use Rattle.node_semver_callers.specs.declared.failure.Failure.{Failure}
use Rattle.node_semver_callers.specs.declared.failure.Failure.TheVariants.{Memory, Refused}
use Rattle.node_semver.specs.Ranges.{IsRefused}
use Rattle.node_semver.specs.Errors.{IsOutOfMemory, IsRefusalAt, no_valid_ranges}

-- the text is refused and the failure holds the error for it, or an allocation failed
abbrev pub IsFailureOf : List ℕ → Failure → Type 0
IsFailureOf text (Refused e) = IsOutOfMemory e ⊎ (IsRefusalAt text no_valid_ranges 0 e × IsRefused text)
IsFailureOf text Memory = Unit {0}
