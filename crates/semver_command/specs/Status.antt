-- The exit status.
use Rattle.std.specs.Prelude.{ℕ}
use Rattle.semver_command.specs.declared.ending.Ending.{Ending}
use Rattle.semver_command.specs.declared.ending.Ending.TheVariants.{Misused, Nothing, Refused, Unexplained, Written}

-- 0 if the output of the request was written, and 1 if not
abbrev pub status_of_ending : Ending → ℕ
status_of_ending Written = 0
status_of_ending Nothing = 1
status_of_ending Misused = 1
status_of_ending Refused = 1
status_of_ending Unexplained = 1
