-- What is refused is what has a fault.
use Rattle.std.proofs.Common.{◌≡◌, Some}
use Rattle.serde_json.specs.View.{view}
use Rattle.npm_packages.specs.Faults.{lock_fault}
use Rattle.npm_packages.specs.Lemmas.PassedErrors.{told_as}
use Rattle.npm_packages.specs.declared.fault.CheckError.TheVariants.{Refused}
use Rattle.npm_packages.proofs.edges.edges_of.Goals as goal

pub returns-in-Err-clause-refused : goal.returns-in-Err-clause-refused
returns-in-Err-clause-refused c =
    told_as c.in-Err.error Refused (λ fault. lock_fault (view c.args.lock.now) ≡ Some fault) c.in-Err.ensures.refused
