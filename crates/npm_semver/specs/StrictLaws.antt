-- The law of strict version texts. It is why one can say "the strict fault of a text".
use Rattle.std.specs.Prelude.{◌≡◌, ℕ, List}
use Rattle.semver_texts.specs.Version.{VersionValue}
use Rattle.semver_versions.specs.Error.{Kind}
use Rattle.npm_semver.specs.StrictVersionText.{IsStrictFault, IsStrictVersionText}

-- the text has at most one strict fault
abbrev pub HasOneStrictFault : List ℕ → Type 0
HasOneStrictFault text = (k l : Kind) (m n : ℕ) → IsStrictFault text k m → IsStrictFault text l n → (k ≡ l) × (m ≡ n)

-- and none, if it is a strict version text
abbrev pub IsNeverStrictAndFaulty : List ℕ → Type 0
IsNeverStrictAndFaulty text =
    (v : VersionValue) (kind : Kind) (offset : ℕ) → IsStrictVersionText text v → ¬ IsStrictFault text kind offset
