-- The interval of a span of cuts.
use Rattle.std.specs.Prelude.{Bool}
use Rattle.semver_cuts.specs.Ends.{Ends}
use Rattle.semver_texts.specs.Version.{VersionValue}
use Rattle.semver_keys.specs.CutKey.{HasCutWords, cut_key}
use Rattle.semver_keys.specs.Intervals.{IntervalValue}

-- from the key of its lower end up to the key of its upper end
abbrev pub interval_of : Bool → Ends VersionValue → IntervalValue
interval_of prereleases span =
    record { lower = cut_key span.lower; upper = cut_key span.upper; prereleases = prereleases }

-- the numbers of both ends are of 64 bits
pub record HasSpanWords (span : Ends VersionValue) : Type 0 where
  pub lower : HasCutWords span.lower
  pub upper : HasCutWords span.upper
