-- Why a lock file was not checked.
use Rattle.std.proofs.Common.{◌≡◌, ℕ, List, [], Option, Some, Result, Ok, Err, inl, inr}
use Rattle.std.proofs.Common.{IfErr}
use Rattle.std.specs.Result.{IsErrAnd}
use Rattle.serde_json.proofs.OnLiterals.{serde_json_on_literals}
use Rattle.serde_json.specs.Data.{Data}
use Rattle.serde_json.specs.Read.{read}
use Rattle.serde_json.specs.View.{view}
use Rattle.serde_json.specs.declared.value.Value.{Value}
use Rattle.npm_manifest_files.specs.Linked.{LinkedValue, LoadedValue}
use Rattle.command_lines.specs.WatchedValue.{WatchedValue}
use Rattle.command_lines.specs.Inputs.{IsInput, IsInputText}
use Rattle.npm_lock_check.specs.Check.{IsRefusedAs, IsStopped, IsUnread}
use Rattle.npm_lock_check.specs.Private.Refusals.{IsRefused}
use Rattle.npm_lock_check.specs.Report.{AreLoaded, WantedValue, as_read, manifests_of, placed}
use Rattle.npm_manifest_files.specs.declared.linked.Loaded.{Loaded}
use Rattle.npm_manifest_files.specs.declared.load_error.LoadError.{LoadError}
use Rattle.npm_lock_check.specs.declared.checks.run_error.RunError.{RunError}
use Rattle.npm_lock_check.specs.declared.checks.run_error.RunError.TheVariants.{Memory, NoAdvisories, NoLinked, NoLockFile}
use Rattle.npm_lock_check.specs.declared.checks.run_error.RunError.TheVariants.{NoManifest}
use Rattle.npm_lock_check.specs.declared.checks.run_error.StopError.TheVariants.{Check}

no_value : (lock : Data) → read [] ≡ Some lock → ⊥
unfolding serde_json_on_literals
no_value lock is = cc is

-- the value of a text that was read
pub input_of : {R : Type 0} (remaining : R → Option (List ℕ)) (old new : WatchedValue R) (text : List ℕ) (lock : Data)
    → IsInputText remaining old new text lock → IsInput remaining old new lock
input_of remaining old new text lock input = record {
  bytes = input.bytes;
  taken = input.taken;
  ended = input.ended;
  unfailed = input.unfailed;
  such = input.such.0;
}

-- memory ran out after the input was read
pub later : {R : Type 0} (remaining : R → Option (List ℕ)) (old new : WatchedValue R) (lock : Data)
    → IsInput remaining old new lock → IsUnread remaining old new Memory
later remaining old new lock input = record {
  bytes = input.bytes;
  taken = input.taken;
  ended = input.ended;
  unfailed = input.unfailed;
  such = (input.such.0, λ empty. no_value lock (rw empty at input.such.1));
}

module _ {R : Type 0} (remaining : R → Option (List ℕ)) (old new : WatchedValue R)
    (Gives : Value → Result Loaded LoadError → Type 0) (wanted : WantedValue) (lock : Value)
    (loaded : LoadedValue) (input : IsInput remaining old new (view lock))
    (given : AreLoaded Gives lock wanted.manifest loaded) where
  -- a value has a fault
  faulty : (error : RunError) → IsRefusedAs (as_read wanted.manifest (view lock)) loaded.linked wanted error
      → IsStopped remaining Gives wanted old new (Check error)
  faulty error told = inr (record {
    lock = lock;
    loaded = loaded;
    input = input;
    given = given;
    refused = told;
  })

  -- memory ran out in the check
  pub out : (error : RunError) → error ≡ Memory → IsStopped remaining Gives wanted old new (Check error)
  out error is = rw is (inl (later remaining old new (view lock) input))

  -- a value was refused, or memory ran out in the check
  pub refused : (error : RunError)
      → IsRefused (as_read wanted.manifest (view lock)) (placed (as_read wanted.manifest (view lock))
      (manifests_of wanted.manifest loaded.linked)) loaded.linked wanted error
      → IsStopped remaining Gives wanted old new (Check error)
  refused error (inl (inl (fault, is, told))) = rw is (faulty (NoManifest fault) told)
  refused error (inl (inr (inl (name, fault, is, told)))) = rw is (faulty (NoLinked name fault) told)
  refused error (inl (inr (inr is))) = out error is
  refused error (inr (inl (kind, name, place, shown, is, told))) =
      rw is (faulty (NoAdvisories kind name place shown) told)
  refused error (inr (inr (inl (inl (fault, is, told))))) = rw is (faulty (NoLockFile fault) (inr told))
  refused error (inr (inr (inl (inr is)))) = out error is
  refused error (inr (inr (inr (inl (fault, is, told))))) = rw is (faulty (NoLockFile fault) (inl told))
  refused error (inr (inr (inr (inr is)))) = out error is

-- what holds of an error holds where the error is passed on
pub passed_on : {T E : Type 0} (result : Result T E) (P Q : E → Type 0) → IsErrAnd result P
    → ((error : E) → P error → Q error) → IfErr result Q
passed_on (Ok x) P Q is then = tt
passed_on (Err error) P Q is then = then error is
