-- The parts of a set where prereleases are admitted: for each end that is a prerelease, the part of the set among the
-- prereleases of its triple. `>=1.2.3-rc.4 <2.0.0-0` has one from 1.2.3-rc.4 up to 1.2.3, and none of 2.0.0.
use Rattle.std.specs.Prelude.{List, [], ◌∷◌, ◌++◌}
use Rattle.semver_cuts.specs.CommonSpans.{common_of}
use Rattle.semver_cuts.specs.declared.cut.Cut.{Cut}
use Rattle.semver_cuts.specs.declared.cut.Cut.TheVariants.{Start, Before, After, End}
use Rattle.semver_cuts.specs.Ends.{Ends, span_between}
use Rattle.semver_texts.specs.Comparison.{version_cmp}
use Rattle.semver_texts.specs.IdentifierValue.{IdentifierValue}
use Rattle.semver_texts.specs.Version.{VersionValue, least_of, release}

-- from the least prerelease of a version's triple up to the release
abbrev pub prereleases_of : VersionValue → Ends VersionValue
prereleases_of v =
    span_between (Before (least_of v.major v.minor v.patch)) (Before (release v.major v.minor v.patch))

-- the part among them, if the version at an end has these prerelease identifiers
unfoldable pub parts_for : Ends VersionValue → VersionValue → List IdentifierValue → List (Ends VersionValue)
parts_for set v [] = []
parts_for set v (x ∷ xs) = common_of version_cmp set (prereleases_of v)

abbrev pub parts_at_end : Ends VersionValue → VersionValue → List (Ends VersionValue)
parts_at_end set v = parts_for set v v.pre_release

-- the part at a cut
abbrev pub parts_at : Ends VersionValue → Cut VersionValue → List (Ends VersionValue)
parts_at set Start = []
parts_at set (Before v) = parts_at_end set v
parts_at set (After v) = parts_at_end set v
parts_at set End = []

-- the parts at both ends
abbrev pub parts_of : Ends VersionValue → List (Ends VersionValue)
parts_of set = parts_at set set.lower ++ parts_at set set.upper
