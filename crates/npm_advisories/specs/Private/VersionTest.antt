-- The test that is true for version texts.
use Rattle.std.specs.Prelude.{◌⊎◌, ℕ, List, Bool, true, false}
use mathlib.Core.Logic.{inl, inr}
use Rattle.semver_versions.specs.Lemmas.Public.{read_or_faulty}

abbrev pub is_left : {A B : Type 0} → A ⊎ B → Bool
is_left (inl a) = true
is_left (inr b) = false

unfoldable pub is_version : (text : List ℕ) → Bool
is_version text = is_left (read_or_faulty text)
