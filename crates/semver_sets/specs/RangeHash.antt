-- What a range feeds to a hasher: its sets, each as its two ends. Builds are left out, because equality ignores them.
use Rattle.std.specs.Prelude.{List}
use Rattle.std.specs.Hash as fed
use Rattle.std.specs.Hash.{HashWrites}
use Rattle.semver_cuts.specs.Ends.{Ends}
use Rattle.semver_cuts.specs.Hash.{span_writes}
use Rattle.semver_texts.specs.Hash.{version_writes}
use Rattle.semver_texts.specs.Version.{VersionValue}

-- the number of sets, and then the two ends of each
abbrev pub range_writes : List (Ends VersionValue) → HashWrites
range_writes = fed.slice (span_writes version_writes)
