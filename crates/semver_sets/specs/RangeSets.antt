-- A range as a contract sees it, the list of its sets, and the properties of every range: it has at least one set, each
-- set contains a cut, and no number of an end is above 9007199254740992.
use Rattle.std.specs.Prelude.{◌≢◌, ◌≤◌, ◌+◌, List, [], ◌∷◌, Option, Some, None}
use Rattle.std.specs.List.{AllByRecursion}
use Rattle.semver_cuts.specs.declared.cut.Cut.{Cut}
use Rattle.semver_cuts.specs.declared.cut.Cut.TheVariants.{Start, Before, After, End}
use Rattle.semver_cuts.specs.Ends.{Ends, HoldsCut}
use Rattle.semver_texts.specs.declared.TheConstants.{MAX_SAFE_INTEGER}
use Rattle.semver_texts.specs.Comparison.{version_cmp}
use Rattle.semver_texts.specs.IdentifierText.{IsReadIdentifier}
use Rattle.semver_texts.specs.Version.{VersionValue}
use Rattle.semver_sets.specs.declared.set_list.Sets.{Sets}
use Rattle.semver_sets.specs.declared.set_list.Sets.TheVariants.{One, Many}

-- the sets of a range, in their order
abbrev pub sets_seen : Sets → List (Ends VersionValue)
sets_seen (One set) = set ∷ []
sets_seen (Many sets) = sets

-- and no sets where there is no range
abbrev pub sets_of_some : Option Sets → List (Ends VersionValue)
sets_of_some None = []
sets_of_some (Some sets) = sets_seen sets

-- A version at an end of a range. Its numbers are those of a text or one greater, as the 2 of `<2.0.0-0`, where `^1`
-- ends: so `<9007199254740992.0.0-0` is the end of `^9007199254740991`. Its identifiers are those of a text.
pub record IsRangeEnd (v : VersionValue) : Type 0 where
  pub major : v.major ≤ MAX_SAFE_INTEGER + 1
  pub minor : v.minor ≤ MAX_SAFE_INTEGER + 1
  pub patch : v.patch ≤ MAX_SAFE_INTEGER + 1
  pub pre_release : AllByRecursion IsReadIdentifier v.pre_release
  pub build : AllByRecursion IsReadIdentifier v.build

-- a cut at such a version, or the start, or the end
abbrev pub IsRangeCut : Cut VersionValue → Type 0
IsRangeCut Start = Unit {0}
IsRangeCut (Before v) = IsRangeEnd v
IsRangeCut (After v) = IsRangeEnd v
IsRangeCut End = Unit {0}

-- a set contains a cut, and its two ends are such cuts
pub record IsRangeSet (set : Ends VersionValue) : Type 0 where
  pub holds : HoldsCut version_cmp set
  pub lower : IsRangeCut set.lower
  pub upper : IsRangeCut set.upper

-- at least one such set
pub record IsRangeValue (sets : List (Ends VersionValue)) : Type 0 where
  pub some : sets ≢ []
  pub each : AllByRecursion IsRangeSet sets
