-- What is kept so far.
use Rattle.std.specs.Prelude.{ℕ, List, ◌∷◌, ◌++◌}
use Rattle.node_semver.specs.Versions.{VersionValue}
use Rattle.semver_command.specs.Chosen.{AreChosen}
use Rattle.semver_command.specs.Input.{AreAllTexts, AreTexts}
use Rattle.semver_command.specs.Kept.{IsKept}
use Rattle.semver_command.specs.declared.asked.Options.{Options}
use Rattle.semver_command.specs.declared.kept.Kept.{Kept}

-- this is kept for the versions of these texts
pub record IsOfTexts (options : Options) (IsSuch : VersionValue → Type 0) (texts : List (List ℕ)) (kept : Kept)
    : Type 0 where
  pub versions : List VersionValue
  pub chosen : AreChosen options IsSuch texts versions
  pub is_kept : IsKept options.listing versions kept

-- the versions of these texts were added to those before
abbrev pub Grows : Options → (IsSuch : VersionValue → Type 0) → (texts : List (List ℕ)) → (kept kept_new : Kept) → Type 0
Grows options IsSuch texts kept kept_new = (before : List (List ℕ))
    → IsOfTexts options IsSuch before kept → IsOfTexts options IsSuch (before ++ texts) kept_new

-- the word stands for these texts
abbrev pub StandsFor : (word : List ℕ) → (texts : List (List ℕ)) → Type 0
StandsFor word texts = (words later : List (List ℕ)) → AreTexts words later → AreTexts (word ∷ words) (texts ++ later)

-- this is kept for the texts of these words
pub record IsGathered (options : Options) (IsSuch : VersionValue → Type 0) (words : List (List ℕ)) (kept : Kept)
    : Type 0 where
  pub texts : List (List ℕ)
  pub placed : AreAllTexts words texts
  pub of_texts : IsOfTexts options IsSuch texts kept
