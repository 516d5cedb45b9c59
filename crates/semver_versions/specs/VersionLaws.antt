-- The laws of version texts. They are why one can say "the version of a text" and "the fault of a text".
use Rattle.std.specs.Prelude.{◌≡◌, ◌⊎◌, ℕ, false, List}
use Rattle.semver_texts.specs.Version.{VersionValue}
use Rattle.semver_texts.specs.VersionText.{IsVersionText}
use Rattle.semver_versions.specs.Error.{Kind}
use Rattle.semver_versions.specs.Fault.{IsFault}

-- the text is the text of at most one version
abbrev pub HasOneReading : List ℕ → Type 0
HasOneReading text = (v w : VersionValue) → IsVersionText text v → IsVersionText text w → v ≡ w

-- the text is a version text, or has a fault
abbrev pub IsReadOrFaulty : List ℕ → Type 0
IsReadOrFaulty text =
    ((v : VersionValue) × IsVersionText text v) ⊎ ((kind : Kind) × (offset : ℕ) × IsFault text kind offset)

-- the text is not both
abbrev pub IsNeverBoth : List ℕ → Type 0
IsNeverBoth text = (v : VersionValue) (kind : Kind) (offset : ℕ) → IsVersionText text v → ¬ IsFault text kind offset

-- the text has at most one fault
abbrev pub HasOneFault : List ℕ → Type 0
HasOneFault text = (k l : Kind) (m n : ℕ) → IsFault text k m → IsFault text l n → (k ≡ l) × (m ≡ n)
