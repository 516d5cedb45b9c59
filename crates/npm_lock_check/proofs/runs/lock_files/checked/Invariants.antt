-- The outcomes so far, and then those of the lock files that are left, are the outcomes of all.
use Rattle.std.proofs.Common.{◌++◌, List, Result, drop, map}
use Rattle.std.specs.Fn.{FnReturnsAt}
use Rattle.npm_lock_reports.specs.declared.report.Report.{Report}
use Rattle.npm_lock_check.specs.Files.{AreChecked}
use Rattle.npm_lock_check.specs.declared.checks.output.Output.{Output}
use Rattle.npm_lock_check.specs.declared.checks.run_error.StopError.{StopError}
use Rattle.npm_lock_check.proofs.runs.lock_files.checked.Given as goal

abbrev pub invariant-loop-file : goal.invariant-loop-file
invariant-loop-file g l = (outcomes : List (Result Report StopError)) (outputs : List Output)
    → AreChecked (FnReturnsAt g.F.Fn l.check) (map (λ file. file.now) (drop l.file-index l.files)) outcomes outputs
    → AreChecked (FnReturnsAt g.F.Fn l.check) (map (λ file. file.now) l.files) (l.made.outcomes.items ++ outcomes)
    (l.made.outputs.items ++ outputs)
