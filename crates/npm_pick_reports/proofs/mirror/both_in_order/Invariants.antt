-- The versions that are picked, and then the installed ones so far.
use Rattle.std.proofs.Common.{◌≡◌, ◌++◌, map, string_bytes, take}
use Rattle.npm_pick_reports.proofs.mirror.both_in_order.Given as goal

abbrev pub invariant-loop-version : goal.invariant-loop-version
invariant-loop-version l = map (λ key. key.now) l.keys.items
    ≡ map (λ key. key.now) l.picked ++ map string_bytes (take l.version-index l.installed)
