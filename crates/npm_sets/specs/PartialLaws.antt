-- The laws of npm's partials: what `partial_of` returns, without its steps.
use Rattle.std.specs.Prelude.{◌≡◌, ◌≤◌, ◌↔◌, ℕ, Bool, false, List, length, Ok, Err}
use Rattle.semver_texts.specs.declared.TheConstants.{MAX_LENGTH}
use Rattle.semver_texts.specs.declared.parse.fault.Fault.{Fault}
use Rattle.semver_sets.specs.PartialText.{Partial}
use Rattle.npm_sets.specs.NpmMeaning.{is_unknown}
use Rattle.npm_sets.specs.PartialGrammar.{IsNpmPartialText}
use Rattle.npm_sets.specs.PartialLimits.{IsAboveLimit}
use Rattle.npm_sets.specs.PartialTexts.{partial_of}

-- the text is read as this partial exactly if it has at most 256 bytes, and is written as this partial
abbrev pub IsReadAsWritten : Bool → List ℕ → Partial → Type 0
IsReadAsWritten loose text p =
    (partial_of loose text ≡ Ok p) ↔ ((length text ≤ MAX_LENGTH) × IsNpmPartialText loose text p)

-- the text is at most one partial
abbrev pub IsOneNpmPartial : Bool → List ℕ → Type 0
IsOneNpmPartial loose text =
    (one other : Partial) → IsNpmPartialText loose text one → IsNpmPartialText loose text other → one ≡ other

-- the text is refused in loose form too exactly if it is above a limit
abbrev pub IsRefusedByLimits : Bool → List ℕ → Type 0
IsRefusedByLimits loose text =
    ((fault : Fault) × (partial_of loose text ≡ Err fault) × (is_unknown fault ≡ false)) ↔ IsAboveLimit loose text
