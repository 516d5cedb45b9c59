-- Two partials with a hyphen between them: npm's "Hyphen Ranges".
use Rattle.std.specs.Prelude.{◌≡◌, ℕ, ◌+◌, List, [], ◌∷◌, ◌++◌, Option, Some, None}
use Rattle.semver_cuts.specs.declared.cut.Cut.{Cut}
use Rattle.semver_cuts.specs.declared.cut.Cut.TheVariants.{Start, Before, After}
use Rattle.semver_texts.specs.Characters.{AreBlanks, hyphen}
use Rattle.semver_sets.specs.Comparator.{Comparator}
use Rattle.semver_sets.specs.PartialText.{IsPartialText, Partial, zeroed}
use Rattle.semver_texts.specs.Version.{VersionValue, least_of}

-- where it begins: `1.2 - ` at `>=1.2.0`; without a left side there is no lower end
abbrev pub left_cut : Option Partial → Cut VersionValue
left_cut None = Start
left_cut (Some p) = Before (zeroed p)

-- where it ends, by the components of the right side and its version z
abbrev pub right_row : (major minor patch : Option ℕ) (z : VersionValue) → Cut VersionValue
-- ` - *` is `<0.0.0-0`
right_row None None None z = Before (least_of 0 0 0)
-- ` - 3` is `<4.0.0-0`
right_row (Some major) None None z = Before (least_of (major + 1) 0 0)
-- ` - 3.4` is `<3.5.0-0`
right_row (Some major) (Some minor) None z = Before (least_of major (minor + 1) 0)
-- ` - 3.4.5-a` is `<=3.4.5-a`, ` - 3.x.5` is `<=3.0.5`, ` - x.4` is `<=0.4.0`
right_row major minor patch z = After z

abbrev pub right_cut : Partial → Cut VersionValue
right_cut p = right_row p.major p.minor p.patch (zeroed p)

-- a hyphen range goes from its left side to its right side. If the right side is below the left, it contains no cut
abbrev pub hyphen_comparator : Option Partial → Partial → Comparator
hyphen_comparator left right = record { lower = left_cut left; upper = right_cut right }

-- a partial, or nothing
abbrev pub IsLeftText : List ℕ → Option Partial → Type 0
IsLeftText text None = text ≡ []
IsLeftText text (Some p) = IsPartialText text p

-- an optional left side, blanks, `-`, blanks, and a right side: `1.2 - 3`, ` - 3`
pub record IsHyphenText (text : List ℕ) (comparator : Option Comparator) : Type 0 where
  pub left_text : List ℕ
  pub left_blanks : List ℕ
  pub right_blanks : List ℕ
  pub right_text : List ℕ
  pub left : Option Partial
  pub right : Partial
  pub whole : text ≡ left_text ++ (left_blanks ++ (hyphen ∷ (right_blanks ++ right_text)))
  pub left_read : IsLeftText left_text left
  pub left_blank : AreBlanks left_blanks
  pub right_blank : AreBlanks right_blanks
  pub right_read : IsPartialText right_text right
  pub says : comparator ≡ Some (hyphen_comparator left right)
