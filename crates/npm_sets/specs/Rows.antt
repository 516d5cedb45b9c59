-- The comparator that each word gives: npm's "Ranges", "X-Ranges", "Tilde Ranges", "Caret Ranges" and "Hyphen Ranges".
--
-- Each row has a parameter, whether prereleases are included. z is the version of a full partial without its build. A
-- component is absent if it is an x or is not written; what is written after an absent one has no meaning.
use Rattle.std.specs.Prelude.{ℕ, zero, suc, ◌+◌, Bool, if◌then◌else◌, Option, Some, None}
use Rattle.std.specs.Prelude.{List, [], ◌∷◌}
use Rattle.semver_cuts.specs.declared.cut.Cut.{Cut}
use Rattle.semver_cuts.specs.declared.cut.Cut.TheVariants.{Start, Before, After, End}
use Rattle.semver_texts.specs.IdentifierValue.{IdentifierValue}
use Rattle.semver_texts.specs.Version.{VersionValue, least_of, release, without_build}
use Rattle.semver_sets.specs.Comparator.{Comparator, above, at_least, at_most, below, exactly, from_up_to}
use Rattle.semver_sets.specs.Merging.{all_cuts}
use Rattle.semver_sets.specs.PartialText.{Partial, zeroed}
use Rattle.npm_sets.specs.declared.words.Lead.{Lead}
use Rattle.npm_sets.specs.declared.words.Lead.TheVariants.{Above, AtLeast, AtMost, Below, Caret, Equal, Nothing, Tilde}

-- no version: `<0.0.0-0`
abbrev pub no_versions : Comparator
no_versions = below (least_of 0 0 0)

-- the release with this triple; or the least version with it, `1.2.0-0`, if prereleases are included
abbrev pub first_of : Bool → ℕ → ℕ → ℕ → VersionValue
first_of pre major minor patch = if pre then least_of major minor patch else release major minor patch

-- z if it is a prerelease; otherwise the first version of its triple
abbrev pub prerelease_or_first : Bool → VersionValue → List IdentifierValue → VersionValue
prerelease_or_first pre z [] = first_of pre z.major z.minor z.patch
prerelease_or_first pre z (i ∷ identifiers) = z

-- `1.2.3` is `>=1.2.3 <=1.2.3`, `1.2` is `>=1.2.0 <1.3.0-0`, `1` is `>=1.0.0 <2.0.0-0`, `*` is all versions
abbrev pub equal_row : Bool → (major minor patch : Option ℕ) (z : VersionValue) → Comparator
equal_row pre None minor patch z = all_cuts
equal_row pre (Some major) None patch z = from_up_to (first_of pre major 0 0) (least_of (major + 1) 0 0)
equal_row pre (Some major) (Some minor) None z = from_up_to (first_of pre major minor 0) (least_of major (minor + 1) 0)
equal_row pre (Some major) (Some minor) (Some patch) z = exactly z

-- `>=1.2.3`, `>=1.2` is `>=1.2.0`, `>=1` is `>=1.0.0`, `>=*` is all versions
abbrev pub at_least_row : Bool → (major minor patch : Option ℕ) (z : VersionValue) → Comparator
at_least_row pre None minor patch z = all_cuts
at_least_row pre (Some major) None patch z = at_least (first_of pre major 0 0)
at_least_row pre (Some major) (Some minor) None z = at_least (first_of pre major minor 0)
at_least_row pre (Some major) (Some minor) (Some patch) z = at_least z

-- `>1.2.3`, `>1.2` is `>=1.3.0`, `>1` is `>=2.0.0`, `>*` is no version
abbrev pub above_row : Bool → (major minor patch : Option ℕ) (z : VersionValue) → Comparator
above_row pre None minor patch z = no_versions
above_row pre (Some major) None patch z = at_least (first_of pre (major + 1) 0 0)
above_row pre (Some major) (Some minor) None z = at_least (first_of pre major (minor + 1) 0)
above_row pre (Some major) (Some minor) (Some patch) z = above z

-- `<1.2.3`, `<1.2` is `<1.2.0-0`, `<1` is `<1.0.0-0`, `<*` is no version
abbrev pub below_row : (major minor patch : Option ℕ) (z : VersionValue) → Comparator
below_row None minor patch z = no_versions
below_row (Some major) None patch z = below (least_of major 0 0)
below_row (Some major) (Some minor) None z = below (least_of major minor 0)
below_row (Some major) (Some minor) (Some patch) z = below z

-- `<=1.2.3`, `<=1.2` is `<1.3.0-0`, `<=1` is `<2.0.0-0`, `<=*` is all versions
abbrev pub at_most_row : (major minor patch : Option ℕ) (z : VersionValue) → Comparator
at_most_row None minor patch z = all_cuts
at_most_row (Some major) None patch z = below (least_of (major + 1) 0 0)
at_most_row (Some major) (Some minor) None z = below (least_of major (minor + 1) 0)
at_most_row (Some major) (Some minor) (Some patch) z = at_most z

-- `~1.2.3` is `>=1.2.3 <1.3.0-0`, `~1.2` is `>=1.2.0 <1.3.0-0`, `~1` is `>=1.0.0 <2.0.0-0`, `~*` is all versions
abbrev pub tilde_row : (major minor patch : Option ℕ) (z : VersionValue) → Comparator
tilde_row None minor patch z = all_cuts
tilde_row (Some major) None patch z = from_up_to (release major 0 0) (least_of (major + 1) 0 0)
tilde_row (Some major) (Some minor) None z = from_up_to (release major minor 0) (least_of major (minor + 1) 0)
tilde_row (Some major) (Some minor) (Some patch) z = from_up_to z (least_of major (minor + 1) 0)

-- `^1.2.3` is `>=1.2.3 <2.0.0-0`, `^1.2` is `>=1.2.0 <2.0.0-0`, `^1` is `>=1.0.0 <2.0.0-0`, `^*` is all versions;
-- `^0.2.3` is `>=0.2.3 <0.3.0-0`, `^0.0.3` is `>=0.0.3 <0.0.4-0`, `^0.2` is `>=0.2.0 <0.3.0-0`, `^0` is `>=0.0.0
-- <1.0.0-0`
abbrev pub caret_row : Bool → (major minor patch : Option ℕ) (z : VersionValue) → Comparator
caret_row pre None minor patch z = all_cuts
caret_row pre (Some major) None patch z = from_up_to (first_of pre major 0 0) (least_of (major + 1) 0 0)
caret_row pre (Some zero) (Some minor) None z = from_up_to (first_of pre 0 minor 0) (least_of 0 (minor + 1) 0)
caret_row pre (Some (suc major)) (Some minor) None z =
    from_up_to (first_of pre (suc major) minor 0) (least_of (suc major + 1) 0 0)
caret_row pre (Some zero) (Some zero) (Some patch) z =
    from_up_to (prerelease_or_first pre z z.pre_release) (least_of 0 0 (patch + 1))
caret_row pre (Some zero) (Some (suc minor)) (Some patch) z =
    from_up_to (prerelease_or_first pre z z.pre_release) (least_of 0 (suc minor + 1) 0)
caret_row pre (Some (suc major)) (Some minor) (Some patch) z = from_up_to z (least_of (suc major + 1) 0 0)

-- the row of a lead
abbrev pub lead_row : Bool → Lead → (major minor patch : Option ℕ) (z : VersionValue) → Comparator
lead_row pre Nothing major minor patch z = equal_row pre major minor patch z
lead_row pre Equal major minor patch z = equal_row pre major minor patch z
lead_row pre AtLeast major minor patch z = at_least_row pre major minor patch z
lead_row pre Above major minor patch z = above_row pre major minor patch z
lead_row pre Below major minor patch z = below_row major minor patch z
lead_row pre AtMost major minor patch z = at_most_row major minor patch z
lead_row pre Tilde major minor patch z = tilde_row major minor patch z
lead_row pre Caret major minor patch z = caret_row pre major minor patch z

-- the comparator of a lead and a partial
abbrev pub lead_comparator : Bool → Lead → Partial → Comparator
lead_comparator pre lead p = lead_row pre lead p.major p.minor p.patch (without_build (zeroed p))

-- ---- hyphen ranges

-- where it begins: `1.2.3 - `, `1.2 - ` at `>=1.2.0`, `1 - ` at `>=1.0.0`; `* - ` has no lower end
abbrev pub left_row : Bool → (major minor patch : Option ℕ) (z : VersionValue) → Cut VersionValue
left_row pre None minor patch z = Start
left_row pre (Some major) None patch z = Before (first_of pre major 0 0)
left_row pre (Some major) (Some minor) None z = Before (first_of pre major minor 0)
left_row pre (Some major) (Some minor) (Some patch) z = Before (prerelease_or_first pre z z.pre_release)

-- at a full version: ` - 1.2.3` is `<=1.2.3`, or `<1.2.4-0` if prereleases are included, ` - 1.2.3-a` is `<=1.2.3-a`
abbrev pub right_full : Bool → VersionValue → List IdentifierValue → Cut VersionValue
right_full pre z [] = if pre then Before (least_of z.major z.minor (z.patch + 1)) else After z
right_full pre z (i ∷ identifiers) = After z

-- where it ends: ` - 1.2` at `<1.3.0-0`, ` - 1` at `<2.0.0-0`; ` - *` has no upper end
abbrev pub right_row : Bool → (major minor patch : Option ℕ) (z : VersionValue) → Cut VersionValue
right_row pre None minor patch z = End
right_row pre (Some major) None patch z = Before (least_of (major + 1) 0 0)
right_row pre (Some major) (Some minor) None z = Before (least_of major (minor + 1) 0)
right_row pre (Some major) (Some minor) (Some patch) z = right_full pre z z.pre_release

-- from the left side to the right side: `1.2 - 3` is `>=1.2.0 <4.0.0-0`
abbrev pub hyphen_comparator : Bool → Partial → Partial → Comparator
hyphen_comparator pre left right = record {
  lower = left_row pre left.major left.minor left.patch (without_build (zeroed left));
  upper = right_row pre right.major right.minor right.patch (without_build (zeroed right));
}
