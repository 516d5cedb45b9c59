-- The intervals of keys that C reads.
use Rattle.std.specs.Prelude.{[], false}
use Rattle.semver_keys.specs.Intervals.{IntervalValue}

-- the default for a place past the last interval, in clauses on the places before it
abbrev pub no_interval : IntervalValue
no_interval = record { lower = []; upper = []; prereleases = false }
