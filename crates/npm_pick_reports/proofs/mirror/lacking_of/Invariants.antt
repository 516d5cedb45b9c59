-- The installed versions so far that the document lacks.
use Rattle.std.proofs.Common.{◌≡◌, map, not, string_bytes, take}
use Rattle.std.specs.Prelude.{filter}
use Rattle.serde_json.specs.View.{view}
use Rattle.npm_pick_reports.specs.Mirror.{has_version}
use Rattle.npm_pick_reports.proofs.mirror.lacking_of.Given as goal

abbrev pub invariant-loop-version : goal.invariant-loop-version
invariant-loop-version l = map string_bytes l.lacking.items
    ≡ filter (λ key. not (has_version (view l.packument) key)) (map string_bytes (take l.version-index l.versions))
