use Rattle.std.proofs.Common.{◌≡◌, None, take}
use Rattle.version_solving.specs.Solving.{first_open}
use Rattle.version_solving.specs.Private.Paths.{in_table}
use Rattle.version_solving.proofs.agenda.first_open.Given as goal

abbrev pub invariant-loop-place : goal.invariant-loop-place
invariant-loop-place l = first_open (in_table l.table) (take l.place l.demands) ≡ None
