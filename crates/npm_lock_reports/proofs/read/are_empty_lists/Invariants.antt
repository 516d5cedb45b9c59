-- The members that are left decide.
use Rattle.std.proofs.Common.{◌≡◌}
use Rattle.serde_json.specs.View.{members_view}
use Rattle.npm_lock_reports.specs.Read as Reads
use Rattle.npm_lock_reports.proofs.read.are_empty_lists.Given as goal

abbrev pub invariant-loop-member : goal.invariant-loop-member
invariant-loop-member l = Reads.are_empty_lists (members_view l.member-iterator)
    ≡ Reads.are_empty_lists (members_view l.initial.member-iterator)
