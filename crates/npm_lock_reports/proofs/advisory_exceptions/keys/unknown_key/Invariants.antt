-- The first unknown key of the members that are left is that of all members.
use Rattle.std.proofs.Common.{◌≡◌}
use Rattle.toml.specs.View.{members_view}
use Rattle.npm_lock_reports.specs.Reading.{unknown_key}
use Rattle.npm_lock_reports.specs.Private.Keys.{keys_of}
use Rattle.npm_lock_reports.proofs.advisory_exceptions.keys.unknown_key.Given as goal

abbrev pub invariant-loop-key : goal.invariant-loop-key
invariant-loop-key l = unknown_key (keys_of l.level) (members_view l.key-iterator)
    ≡ unknown_key (keys_of l.level) (members_view l.initial.key-iterator)
