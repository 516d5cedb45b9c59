-- Why the program stops if the document of a package is not loaded, or a lock file has a fault.
use Rattle.std.specs.Prelude.{◌≡◌, ℕ, List, Option, Some, None, Result, Err}
use Rattle.serde_json.specs.Data.{Data}
use Rattle.serde_json.specs.declared.value.Value.{Value}
use Rattle.npm_packages.specs.Faults.{lock_fault}
use Rattle.npm_packages.specs.declared.fault.Fault.{Fault}
use Rattle.npm_pick_reports.specs.declared.load_error.LoadError.{LoadError}
use Rattle.npm_pick_reports.specs.declared.run_error.RunError.{RunError}
use Rattle.npm_pick_reports.specs.declared.run_error.RunError.TheVariants.{Load, Memory, NoLock, Write}

-- what `load` returns for the package of a name
abbrev pub Loads : Type 1
Loads = (name : List ℕ) → Result (Option Value) LoadError → Type 0

-- the packages whose documents are needed, by their names
abbrev pub Needed : Type 1
Needed = (name : List ℕ) → Type 0

-- the document of a package that is needed was not loaded, or an allocation failed
abbrev pub IsLoadFailure : Needed → Loads → RunError → Type 0
IsLoadFailure IsNeeded Gives Memory = Unit {0}
IsLoadFailure IsNeeded Gives (Load error) = (name : List ℕ) × IsNeeded name × Gives name (Err error)
IsLoadFailure IsNeeded Gives Write = ⊥
IsLoadFailure IsNeeded Gives (NoLock fault) = ⊥

-- there is a lock file, and it has this fault
abbrev pub IsLockFault : (lock : Option Data) → Fault → Type 0
IsLockFault None fault = ⊥
IsLockFault (Some lock) fault = lock_fault lock ≡ Some fault

-- the lock file has a fault, or an allocation failed
abbrev pub IsLockFailure : (lock : Option Data) → RunError → Type 0
IsLockFailure lock Memory = Unit {0}
IsLockFailure lock (NoLock fault) = IsLockFault lock fault
IsLockFailure lock (Load error) = ⊥
IsLockFailure lock Write = ⊥
