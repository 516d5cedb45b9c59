-- The lock file of a selection has no problem.
use Rattle.std.specs.Prelude.{◌≡◌, ℕ, List, None, Some, [], slice_get}
use Rattle.serde_json.specs.View.{view}
use Rattle.serde_json.specs.declared.value.Value.{Value}
use Rattle.npm_lock.specs.Findings.{IsChecked}
use Rattle.npm_lock.specs.declared.problem.Problems.{Problems}
use Rattle.npm_resolve.specs.Answers.{ChosenValue}
use Rattle.npm_resolve.specs.declared.documents.Document.{Document}
use Rattle.npm_resolve_reports.specs.Locks.{AreLockLinesFor, all_installed}
use Rattle.npm_resolve_laws.specs.Ordinary.{AreOrdinary}

-- `npm_lock::check` finds no problem in the lock file that is written of what is selected, for the first manifest, if dependencies are
-- ordinary.
abbrev pub HasSoundLock : List Value → List Document → List ChosenValue → Type 0
HasSoundLock manifests documents selected = (root : Value) (lines : List ℕ) (problems : Problems) → slice_get manifests 0 ≡ Some root
    → AreOrdinary (view root) documents (all_installed documents selected)
    → (file : AreLockLinesFor root documents selected lines) → IsChecked file.lock None problems → problems.list.items ≡ []
