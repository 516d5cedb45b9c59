-- The check of one lock file.
use Rattle.std.specs.Prelude.{◌≡◌, ◌≢◌, ◌⊎◌, ℕ, List, [], ◌∷◌, true, IsUtf8, Option, None, Some}
use Rattle.std.specs.Prelude.{Result, option_and_then, option_map, string_bytes}
use Rattle.std.specs.Option.{option_or}
use Rattle.toml_datetime.specs.declared.datetime.Date.{Date}
use Rattle.serde_json.specs.Data.{Data}
use Rattle.serde_json.specs.View.{view}
use Rattle.serde_json.specs.declared.value.Value.{Value}
use Rattle.npm_lock.specs.Mismatches.{manifest_fault}
use Rattle.npm_lock.specs.VersionOne.{any_fault}
use Rattle.npm_lock.specs.OtherFolders.{IsFirstAnotherOf}
use Rattle.npm_packages.specs.declared.fault.Fault.{Fault}
use Rattle.npm_advisories.specs.Audit.{FoundValue}
use Rattle.npm_advisories.specs.Faults.{FaultValue}
use Rattle.npm_advisories.specs.LockFaults.{IsFileFaultBeside}
use Rattle.npm_advisories.specs.declared.fault.FaultKind.{FaultKind}
use Rattle.npm_manifest_files.specs.Linked.{LinkedValue, LoadedValue}
use Rattle.command_lines.specs.Inputs as Inputs
use Rattle.command_lines.specs.Inputs.{IsInput, IsWholeInput}
use Rattle.command_lines.specs.WatchedValue.{WatchedValue}
use Rattle.npm_lock_check.specs.Report.{AreLoaded, IsNotLoaded, IsReportOf, WantedValue, has_packages, manifests_of}
use Rattle.npm_lock_check.specs.Report.{as_read, checked_lock, placed}
use Rattle.npm_lock_reports.specs.declared.folder_name.FolderName.{FolderName}
use Rattle.npm_lock_check.specs.Written.{IsOutput}
use Rattle.npm_manifest_files.specs.declared.linked.Loaded.{Loaded}
use Rattle.npm_lock_check.specs.declared.checks.output.Output.{Output}
use Rattle.npm_lock_reports.specs.declared.report.Report.{Report}
use Rattle.npm_manifest_files.specs.declared.load_error.LoadError.{LoadError}
use Rattle.npm_lock_check.specs.declared.checks.run_error.RunError.{RunError}
use Rattle.npm_lock_check.specs.declared.checks.run_error.RunError.TheVariants.{Input, Memory, NoAdvisories}
use Rattle.npm_lock_check.specs.declared.checks.run_error.RunError.TheVariants.{NoLinked, NoLockFile, NoManifest}
use Rattle.npm_lock_check.specs.declared.checks.run_error.StopError.{StopError}
use Rattle.npm_lock_check.specs.declared.checks.run_error.StopError.TheVariants.{Advisories, Check, Exceptions, Load, Manifest}

-- a lock file was read, and the manifests of linked folders were loaded, and these are the report and its output
pub record IsReported {R : Type 0} (remaining : R → Option (List ℕ)) (old new : WatchedValue R)
    (Gives : Value → Result Loaded LoadError → Type 0) (wanted : WantedValue) (report : Report)
    (found : List FoundValue) (output : Output) : Type 0 where
  pub lock : Value
  pub loaded : LoadedValue
  pub input : IsInput remaining old new (view lock)
  pub given : AreLoaded Gives lock wanted.manifest loaded
  pub report_of : IsReportOf (as_read wanted.manifest (view lock)) loaded wanted report found
  pub written : IsOutput wanted.format report found output

-- ---- why nothing was written

-- the value of the manifest has this fault; beside a lock file of version 1 that is a fault of the lock file
abbrev pub IsNoManifest : (lock : Data) → (manifest : Option Data) → Fault → Type 0
IsNoManifest lock manifest fault =
    (has_packages lock ≡ true) × (option_and_then manifest_fault manifest ≡ Some fault)

-- the fault of a manifest, and the folder of its package
pub record LinkedFault : Type 0 where
  pub folder : List ℕ
  pub fault : Fault

-- the first of these manifests with a fault, if there is one
abbrev pub linked_fault : List LinkedValue → Option LinkedFault
linked_fault [] = None
linked_fault (one ∷ others) = option_or
    (option_map (λ fault. record { folder = one.folder; fault = fault }) (manifest_fault one.manifest))
    (linked_fault others)

-- the manifest in the folder of this name is the first with a fault
abbrev pub IsNoLinked : List LinkedValue → FolderName → Fault → Type 0
IsNoLinked linked name fault = linked_fault linked ≡ Some (record { folder = string_bytes name.text; fault = fault })

-- the value, with the manifests in their places, is no lock file
abbrev pub IsNoLockFile : (placed : Data) → (manifest : Option Data) → Fault → Type 0
IsNoLockFile placed manifest fault = any_fault placed manifest ≡ Some fault

-- npm reads a member of the lock file as another folder of the project
abbrev pub IsNoOwnFolder : (checked : Data) → (project : List ℕ) → Type 0
IsNoOwnFolder checked project = (key : List ℕ) × IsFirstAnotherOf checked project (Some key)

-- the value of the advisories has a fault of this kind where the packages of this lock file are installed
abbrev pub AreNoAdvisories : (today : Date) → (checked : Data) → (advisories : Option Data) → FaultKind → Type 0
AreNoAdvisories today checked advisories kind = (file : Data) × (advisories ≡ Some file)
    × (fault : FaultValue) × IsFileFaultBeside today checked file (Some fault) × (kind ≡ fault.kind)

-- Why no value was read, or memory ran out later: then all was read, and it is in UTF-8 and not empty.
abbrev pub IsUnread : {R : Type 0} → (remaining : R → Option (List ℕ)) → (old new : WatchedValue R) → RunError → Type 0
IsUnread remaining old new (Input error) = Inputs.IsUnread remaining old new error
IsUnread remaining old new Memory = IsWholeInput remaining old new (λ bytes. IsUtf8 bytes × (bytes ≢ []))
IsUnread remaining old new _ = ⊥

-- Why a lock file that was read is not checked: its value, a manifest or the advisories have a fault.
abbrev pub IsRefusedAs : (lock : Data) → (linked : List LinkedValue) → WantedValue → RunError → Type 0
IsRefusedAs lock linked wanted (NoLockFile found) =
    IsNoLockFile (placed lock (manifests_of wanted.manifest linked)) wanted.manifest found.fault
    ⊎ IsNoOwnFolder (checked_lock lock wanted.manifest linked) wanted.project
IsRefusedAs lock linked wanted (NoManifest fault) = IsNoManifest lock wanted.manifest fault
IsRefusedAs lock linked wanted (NoLinked name fault) = IsNoLinked linked name fault
IsRefusedAs lock linked wanted (NoAdvisories kind name place shown) =
    AreNoAdvisories wanted.today (checked_lock lock wanted.manifest linked) wanted.advisories kind
IsRefusedAs lock linked wanted _ = ⊥

-- a lock file was read, and the manifests of linked folders were loaded, and one of these values has a fault
pub record IsFaulty {R : Type 0} (remaining : R → Option (List ℕ)) (old new : WatchedValue R)
    (Gives : Value → Result Loaded LoadError → Type 0) (wanted : WantedValue) (error : RunError) : Type 0 where
  pub lock : Value
  pub loaded : LoadedValue
  pub input : IsInput remaining old new (view lock)
  pub given : AreLoaded Gives lock wanted.manifest loaded
  pub refused : IsRefusedAs (as_read wanted.manifest (view lock)) loaded.linked wanted error

-- a lock file was read, and the manifests of linked folders were not loaded
pub record IsUnloaded {R : Type 0} (remaining : R → Option (List ℕ)) (old new : WatchedValue R)
    (Gives : Value → Result Loaded LoadError → Type 0) (wanted : WantedValue) (error : LoadError) : Type 0 where
  pub lock : Value
  pub input : IsInput remaining old new (view lock)
  pub failed : IsNotLoaded Gives lock wanted.manifest error

-- why a lock file was not checked
abbrev pub IsStopped : {R : Type 0} → (remaining : R → Option (List ℕ))
    → (Gives : Value → Result Loaded LoadError → Type 0) → (wanted : WantedValue) → (old new : WatchedValue R)
    → StopError → Type 0
IsStopped remaining Gives wanted old new (Check error) =
    IsUnread remaining old new error ⊎ IsFaulty remaining old new Gives wanted error
IsStopped remaining Gives wanted old new (Load error) = IsUnloaded remaining old new Gives wanted error
IsStopped remaining Gives wanted old new (Manifest error) = ⊥
IsStopped remaining Gives wanted old new (Advisories error) = ⊥
IsStopped remaining Gives wanted old new (Exceptions error) = ⊥
