-- The keys of the members so far were added, if they are admitted.
use Rattle.std.proofs.Common.{map}
use Rattle.serde_json.specs.View.{members_view, view}
use Rattle.npm_pick.specs.Private.Keeping.{AreAddedSoFar, key_value}
use Rattle.npm_pick.proofs.admitted.Admitting.with_members.Given as goal

abbrev pub invariant-loop-key : goal.invariant-loop-key
invariant-loop-key l = AreAddedSoFar (view l.self.packument.now) l.self.options.now l.self.ranges.items
    (members_view l.initial.key-iterator) (members_view l.key-iterator)
    (map key_value l.initial.keys.items) (map key_value l.keys.items)
