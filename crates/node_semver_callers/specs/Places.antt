-- Errors for members of a package, with the line and the column of the fault.
use Rattle.std.specs.Prelude.{◌≡◌, ◌⊎◌, ℕ, List}
use Rattle.node_semver_callers.specs.declared.package.MemberError.{MemberError}
use Rattle.node_semver_callers.specs.declared.package.MemberError.TheVariants.{NotAString, Refused}
use Rattle.node_semver.specs.Ranges.{IsRefused}
use Rattle.node_semver.specs.Errors.{IsOutOfMemory, IsRefusalAt, no_valid_ranges, refusal_of}
use Rattle.node_semver.specs.Errors.{column_at, lines_before}

-- the error for this text, or that an allocation failed, with the line and the column of its offset
abbrev pub IsPlacedIn : List ℕ → MemberError → Type 0
IsPlacedIn text NotAString = ⊥
IsPlacedIn text (Refused line column e) =
    (line ≡ lines_before (refusal_of e).input (refusal_of e).offset)
    × (column ≡ column_at (refusal_of e).input (refusal_of e).offset)
    × (IsOutOfMemory e ⊎ (IsRefusalAt text no_valid_ranges 0 e × IsRefused text))
