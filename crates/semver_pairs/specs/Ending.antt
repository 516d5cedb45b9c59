-- How the program ends.
use Rattle.std.specs.Prelude.{ℕ, List, ◌++◌, codes}
use Rattle.semver_pairs.specs.declared.run_error.RunError.{RunError}
use Rattle.semver_pairs.specs.declared.run_error.RunError.TheVariants.{Endless, Memory, Read, Write}

-- the text of each error
abbrev pub error_text : RunError → List ℕ
error_text Read = codes "read failed"
error_text Write = codes "write failed"
error_text Memory = codes "out of memory"
error_text Endless = codes "input does not end"

-- the line on standard error for each error: `semver_pairs: read failed`
abbrev pub error_line : RunError → List ℕ
error_line error = codes "semver_pairs: " ++ error_text error
