-- Worked examples of inputs.
use Rattle.std.proofs.Common.{◌≡◌, ◌∷◌, ℕ, List, [], Option, Result, Some, codes, false, inl, inr, refl, true}
use Rattle.std.specs.declared.io.ErrorKind.TheVariants.{Other, OutOfMemory}
use Rattle.serde_json.specs.Data.{Data}
use Rattle.serde_json.specs.declared.value.Value.{Value}
use Rattle.command_lines.specs.WatchedValue.{WatchedValue}
use Rattle.command_lines.specs.Inputs.{IsInput, IsUnread, has_mark}
use Rattle.command_lines.specs.declared.input_error.InputError.TheVariants.{NoJson, NoUtf8, Read}
use Rattle.npm_lock_check.specs.Check.{IsStopped}
use Rattle.npm_lock_check.specs.Report.{WantedValue}
use Rattle.npm_manifest_files.specs.declared.linked.Loaded.{Loaded}
use Rattle.npm_manifest_files.specs.declared.load_error.LoadError.{LoadError}
use Rattle.npm_lock_check.specs.declared.checks.run_error.RunError.TheVariants.{Input}
use Rattle.npm_lock_check.specs.declared.checks.run_error.StopError.TheVariants.{Check, Load}

-- ---- inputs

module _ (remaining : List ℕ → Option (List ℕ)) (old : WatchedValue (List ℕ)) where
  -- a read that ran out of memory is no failed read of another kind
  pub no_memory_is_no_failed_read : ¬ IsUnread remaining old (record { inner = []; failure = Some OutOfMemory }) Read
  no_memory_is_no_failed_read stopped = stopped.1 refl

  pub another_failure_is_a_failed_read : IsUnread remaining old (record { inner = []; failure = Some Other }) Read
  another_failure_is_a_failed_read = (refl, λ same. cc same)

  -- after a failed call no input was read, and none is called no JSON
  pub after_a_failure_nothing_was_read : (lock : Data) → ¬ IsInput remaining old
      (record { inner = []; failure = Some Other }) lock
  after_a_failure_nothing_was_read lock input = cc input.unfailed

module _ (remaining : List ℕ → Option (List ℕ)) (Gives : Value → Result Loaded LoadError → Type 0)
    (wanted : WantedValue) (old : WatchedValue (List ℕ)) where
  pub after_a_failure_nothing_is_no_json : (line column : ℕ)
      → ¬ IsStopped remaining Gives wanted old (record { inner = []; failure = Some Other })
      (Check (Input (NoJson line column)))
  after_a_failure_nothing_is_no_json line column (inl stopped) = cc stopped.unfailed
  after_a_failure_nothing_is_no_json line column (inr faulty) = faulty.refused

  pub after_a_failure_nothing_is_no_text : ¬ IsStopped remaining Gives wanted old
      (record { inner = []; failure = Some Other }) (Check (Input NoUtf8))
  after_a_failure_nothing_is_no_text (inl stopped) = cc stopped.unfailed
  after_a_failure_nothing_is_no_text (inr faulty) = faulty.refused

  -- after a failed call no manifest is loaded
  pub after_a_failure_nothing_is_loaded : (error : LoadError) → ¬ IsStopped remaining Gives wanted old
      (record { inner = []; failure = Some Other }) (Load error)
  after_a_failure_nothing_is_loaded error stopped = cc stopped.input.unfailed

pub a_mark : has_mark (239 ∷ 187 ∷ 191 ∷ codes "{}") ≡ true
a_mark = refl

pub no_mark : has_mark (codes "{}") ≡ false
no_mark = refl
