-- The ranges so far, and the texts that are left, admit what all texts do.
use Rattle.std.proofs.Common.{◌↔◌, ◌⊎◌, drop, map, string_bytes}
use Rattle.node_semver.specs.Versions.{VersionValue}
use Rattle.npm_pick.specs.Kept.{IsInSome}
use Rattle.npm_pick.specs.Private.Keeping.{IsInOne}
use Rattle.npm_pick.proofs.admitted.ranges_of.Given as goal

abbrev pub invariant-loop-text : goal.invariant-loop-text
invariant-loop-text l = (v : VersionValue)
    → (IsInOne l.ranges.items v ⊎ IsInSome (map string_bytes (drop l.text-index l.wanted)) v)
    ↔ IsInSome (map string_bytes l.wanted) v
