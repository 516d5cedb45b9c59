-- No byte of the line begins another line.
use Rattle.std.proofs.Common.{◌≡◌}
use Rattle.npm_lock_reports.specs.Lines.{line_count}
use Rattle.npm_lock_reports.proofs.lines.push_line.Given as goal

abbrev pub invariant-loop-byte : goal.invariant-loop-byte
invariant-loop-byte l = line_count l.lines.items ≡ line_count l.initial.lines.items
