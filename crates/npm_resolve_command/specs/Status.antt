-- The exit status.
use Rattle.std.specs.Prelude.{ℕ}
use Rattle.npm_resolve_reports.specs.declared.reply.Ending.{Ending}
use Rattle.npm_resolve_reports.specs.declared.reply.Ending.TheVariants.{NoSelection, Selected, Undecided, Unread}

-- 0 if versions fit together, 1 if none do, 3 if neither is known, and 2 if no lock file is written since rules are not read
abbrev pub status_of_ending : Ending → ℕ
status_of_ending Selected = 0
status_of_ending NoSelection = 1
status_of_ending Undecided = 3
status_of_ending Unread = 2
