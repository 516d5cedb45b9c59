-- Comparators: the span of versions that one word of a range text gives, before its prereleases are considered.
use Rattle.std.specs.Prelude.{ℕ, ◌+◌}
use Rattle.semver_cuts.specs.declared.cut.Cut.TheVariants.{Start, Before, After, End}
use Rattle.semver_cuts.specs.Ends.{Ends}
use Rattle.semver_texts.specs.Version.{VersionValue, least_of, release}

-- the two cuts where it begins and ends
abbrev pub Comparator : Type 0
Comparator = Ends VersionValue

-- `>=1.2.3`
abbrev pub at_least : VersionValue → Comparator
at_least v = record { lower = Before v; upper = End }

-- `>1.2.3`
abbrev pub above : VersionValue → Comparator
above v = record { lower = After v; upper = End }

-- `<=1.2.3`
abbrev pub at_most : VersionValue → Comparator
at_most v = record { lower = Start; upper = After v }

-- `<1.2.3`
abbrev pub below : VersionValue → Comparator
below v = record { lower = Start; upper = Before v }

-- `>=1.2.3 <=1.2.3`
abbrev pub exactly : VersionValue → Comparator
exactly v = record { lower = Before v; upper = After v }

-- `>=1.2.3 <2.0.0`
abbrev pub from_up_to : VersionValue → VersionValue → Comparator
from_up_to v w = record { lower = Before v; upper = Before w }

-- all versions with this major: `>=1.0.0 <2.0.0-0`
abbrev pub with_major : ℕ → Comparator
with_major major = from_up_to (release major 0 0) (least_of (major + 1) 0 0)

-- all versions with this major and this minor: `>=1.2.0 <1.3.0-0`
abbrev pub with_minor : ℕ → ℕ → Comparator
with_minor major minor = from_up_to (release major minor 0) (least_of major (minor + 1) 0)
