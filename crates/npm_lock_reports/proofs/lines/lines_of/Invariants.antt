-- A line for each thing so far.
use Rattle.std.proofs.Common.{◌≡◌}
use Rattle.npm_lock_reports.specs.Lines.{line_count}
use Rattle.npm_lock_reports.proofs.lines.lines_of.Given as goal

abbrev pub invariant-loop-thing : goal.invariant-loop-thing
invariant-loop-thing l = line_count l.lines.items ≡ l.thing-index
