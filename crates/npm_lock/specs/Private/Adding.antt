-- What one call adds to the problems of a lock file.
use Rattle.std.specs.Prelude.{List, ◌++◌}
use Rattle.npm_lock.specs.Findings.{Finding, IsReport}
use Rattle.npm_lock.specs.declared.problem.Problems.{Problems}

-- after the report of any findings comes that of the same and these
abbrev pub Adds : (old new : Problems) → (found : List Finding) → Type 0
Adds old new found = (before : List Finding) → IsReport before old → IsReport (before ++ found) new
