-- The ranges so far, and the texts that are left, admit what all texts do.
use Rattle.std.proofs.Common.{◌↔◌, drop, map}
use Rattle.node_semver.specs.Versions.{VersionValue}
use Rattle.semver_command.specs.Ranges.{IsAdmittedByAll, IsInAll, text_value}
use Rattle.semver_command.proofs.ranges.ranges_of.Given as goal

abbrev pub invariant-loop-text : goal.invariant-loop-text
invariant-loop-text l = (v : VersionValue)
    → (IsInAll l.options.include_prerelease l.ranges.items v
    × IsAdmittedByAll l.options (map text_value (drop l.text-index l.texts)) v)
    ↔ IsAdmittedByAll l.options (map text_value l.texts) v
