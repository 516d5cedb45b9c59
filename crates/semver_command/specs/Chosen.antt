-- The versions of texts that are chosen.
use Rattle.std.specs.Prelude.{ℕ, IsUtf8, List, [], ◌∷◌}
use Rattle.node_semver.specs.Versions.{VersionValue}
use Rattle.semver_command.specs.Written.{IsRead}
use Rattle.semver_command.specs.declared.asked.Options.{Options}

-- the text is read as this version, which is such
pub record IsChosen (options : Options) (IsSuch : VersionValue → Type 0) (text : List ℕ) (v : VersionValue) : Type 0 where
  pub utf8 : IsUtf8 text
  pub read : IsRead options text v
  pub such : IsSuch v

-- the text is not in UTF-8, or is read as no version, or as one that is not such
pub data IsLeftOut (options : Options) (IsSuch : VersionValue → Type 0) (text : List ℕ) : Type 0 where
  no_utf8 : ¬ IsUtf8 text → IsLeftOut options IsSuch text
  unread : ((v : VersionValue) → ¬ IsRead options text v) → IsLeftOut options IsSuch text
  unlike : (v : VersionValue) → IsRead options text v → ¬ IsSuch v → IsLeftOut options IsSuch text

-- the versions of the texts that are such, in the order of the texts
pub data AreChosen (options : Options) (IsSuch : VersionValue → Type 0) : (texts : List (List ℕ))
    → List VersionValue → Type 0 where
  none : AreChosen options IsSuch [] []
  chosen : (text : List ℕ) (v : VersionValue) (texts : List (List ℕ)) (others : List VersionValue)
      → IsChosen options IsSuch text v → AreChosen options IsSuch texts others
      → AreChosen options IsSuch (text ∷ texts) (v ∷ others)
  left_out : (text : List ℕ) (texts : List (List ℕ)) (others : List VersionValue)
      → IsLeftOut options IsSuch text → AreChosen options IsSuch texts others
      → AreChosen options IsSuch (text ∷ texts) others
