use Rattle.std.proofs.Common.{◌≡◌, ◌≤◌, count_by, take}
use Rattle.semver_versions.specs.ErrorLocation.{is_newline}
use Rattle.semver_versions.proofs.error.lines.newlines.Given as goal

abbrev pub invariant-bytes : goal.invariant-bytes
invariant-bytes l = (l.count ≡ count_by is_newline (take l.byte-index l.prefix)) × (l.count ≤ l.byte-index)
