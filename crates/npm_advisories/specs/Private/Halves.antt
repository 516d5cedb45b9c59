-- A list of advisories in halves, with all versions that each half is about.
use Rattle.std.specs.Prelude.{◌↔◌, ◌/◌, List, Option, drop, length, take}
use Rattle.semver_cuts.specs.Ends.{Ends}
use Rattle.node_semver.specs.RangeAlgebra.{sets_of_answer}
use Rattle.node_semver.specs.Ranges.{RangeContains}
use Rattle.node_semver.specs.Versions.{VersionValue}
use Rattle.npm_advisories.specs.Private.Spans.{IsInRange}
use Rattle.npm_advisories.specs.declared.advisory.Advisory.{Advisory}
use Rattle.npm_advisories.specs.declared.halves.Halves.{Halves}
use Rattle.npm_advisories.specs.declared.halves.Halves.TheVariants.{Whole, Halved'}

-- the range contains the versions that the advisories are about
abbrev pub IsRangeAbout : List Advisory → Option (List (Ends VersionValue)) → Type 0
IsRangeAbout advisories range = (v : VersionValue) → RangeContains (sets_of_answer range) v ↔ IsInRange advisories v

-- the ranges in the halves are those of the halves of the list
abbrev pub AreHalves : List Advisory → Halves → Type 0
AreHalves advisories Whole = Unit {0}
AreHalves advisories (Halved' all p first q second) = IsRangeAbout advisories all
    × AreHalves (take (length advisories / 2) advisories) first
    × AreHalves (drop (length advisories / 2) advisories) second
