-- Whether the range of a rule and the spec of a dependency meet: npm's "package.json", "overrides".
use Rattle.std.specs.Prelude.{◌≡◌, ◌↔◌, ℕ, List, Bool, true, false, IsTrue, bytes_eq, codes}
use Rattle.node_semver.specs.Cuts.{Ends, ShareCut}
use Rattle.node_semver.specs.Versions.{VersionValue, version_cmp}
use Rattle.npm_semver.specs.NpmRanges.{AreNpmSets, with_plain_spaces}
use Rattle.npm_texts.specs.Admission.{IsNoRange, of_dependencies}
use Rattle.npm_texts.specs.SpecGrammar.{IsSpec, in_registry, location, refused}

-- the sets of versions of a range
pub record AreSetsOf (text : List ℕ) (sets : List (Ends VersionValue)) : Type 0 where
  pub is_range : ¬ IsNoRange of_dependencies text
  pub are : AreNpmSets of_dependencies (with_plain_spaces text) sets

-- The range of a rule and the text of a spec meet, or do not: two ranges do if they have a part in common. A tag, as `latest`, has no
-- versions to compare with, so each range meets it. A range that is none, as that of `a@latest`, meets tags alone.
pub data MeetsText (range text : List ℕ) : Bool → Type 0 where
  tag : IsNoRange of_dependencies text → MeetsText range text true
  no_range : ¬ IsNoRange of_dependencies text → IsNoRange of_dependencies range → MeetsText range text false
  ranges : (met : Bool) (asked ruled : List (Ends VersionValue)) → AreSetsOf text asked → AreSetsOf range ruled
      → (IsTrue met ↔ ShareCut version_cmp asked ruled) → MeetsText range text met

-- The same for a spec. The range `*`, of a key without one, meets each spec. A URL, a repository, a file or a folder has no versions
-- to compare with either.
pub data Meets (range spec : List ℕ) : Bool → Type 0 where
  all : bytes_eq range (codes "*") ≡ true → Meets range spec true
  of_text : (met : Bool) (text : List ℕ) → bytes_eq range (codes "*") ≡ false → IsSpec spec (in_registry text)
      → MeetsText range text met → Meets range spec met
  elsewhere : bytes_eq range (codes "*") ≡ false → IsSpec spec location → Meets range spec true
  never : bytes_eq range (codes "*") ≡ false → IsSpec spec refused → Meets range spec true
