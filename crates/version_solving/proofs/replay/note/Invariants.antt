use Rattle.std.proofs.Common.{◌≡◌, ◌+◌, ◌-◌, ℕ, vec_len}
use Rattle.version_solving.specs.Private.Paths.{in_table}
use Rattle.version_solving.proofs.replay.note.Given as goal

abbrev pub invariant-loop-table : goal.invariant-loop-table
invariant-loop-table l = (name : ℕ) → in_table l.table.items name ≡ in_table l.initial.table.items name

abbrev pub decreases-loop-table : goal.decreases-loop-table
decreases-loop-table l = (l.choice.name + 1) - vec_len l.table
