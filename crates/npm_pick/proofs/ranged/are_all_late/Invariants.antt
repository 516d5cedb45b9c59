-- All were published too late, exactly if all that are left were.
use Rattle.std.proofs.Common.{◌↔◌}
use Rattle.serde_json.specs.View.{members_view, view}
use Rattle.npm_pick.specs.Packument.{releases_among}
use Rattle.npm_pick.specs.Private.Picking.{AreLate}
use Rattle.npm_pick.proofs.ranged.are_all_late.Given as goal

abbrev pub invariant-loop-key : goal.invariant-loop-key
invariant-loop-key l =
    AreLate (view l.asked.packument.now) l.asked.options.now (releases_among (members_view l.initial.key-iterator))
    ↔ AreLate (view l.asked.packument.now) l.asked.options.now (releases_among (members_view l.key-iterator))
