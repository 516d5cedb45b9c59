-- Why advisories or a lock file are refused, and the counts of a report.
use Rattle.std.proofs.Common.{◌≡◌, ◌∙◌, Bool, Err, List, None, Ok, OnOk, Option, Result, Some, false, inl, inr}
use Rattle.std.proofs.Common.{is_some, length, map, option_map, refl, sym, true}
use Rattle.std.specs.Result.{IsErr}
use Rattle.std.proofs.lemmas.List.{length-map}
use Rattle.toml_datetime.specs.declared.datetime.Date.{Date}
use Rattle.serde_json.specs.Data.{Data}
use Rattle.npm_advisories.specs.Faults.{FaultValue}
use Rattle.npm_advisories.specs.LockFaults.{IsFileFaultBeside}
use Rattle.npm_packages.specs.Faults.{lock_fault}
use Rattle.npm_packages.specs.declared.fault.Fault.{Fault}
use Rattle.npm_lock.specs.VersionOne.{any_fault, converted, is_version_one}
use Rattle.npm_manifest_files.specs.Linked.{LinkedValue}
use Rattle.npm_lock_check.specs.Private.Refusals.{AreRefusedAs, IsAuditRefused, IsLockRefused, IsRefused}
use Rattle.npm_lock_check.specs.Report.{WantedValue}
use Rattle.npm_lock_check.specs.declared.checks.run_error.RunError.{RunError}

-- the advisories have this fault
pub refused_as : (today : Date) (checked file : Data) (advisories : Option Data) (fault : FaultValue) (error : RunError)
    → advisories ≡ Some file → IsFileFaultBeside today checked file (Some fault) → AreRefusedAs fault.kind error
    → IsAuditRefused today checked advisories error
refused_as today checked file advisories fault error is told (inl (name, place, shown, same)) =
    inl (fault.kind, name, place, shown, same, (file, is, fault, told, refl))
refused_as today checked file advisories fault error is told (inr memory) = inr memory

-- the checked file is the lock file with the manifests in their places, converted if it is of version 1
pub refused_audit : (lock placed checked : Data) (linked : List LinkedValue) (wanted : WantedValue)
    (error : RunError) → checked ≡ converted placed wanted.manifest
    → IsAuditRefused wanted.today checked wanted.advisories error → IsRefused lock placed linked wanted error
refused_audit lock placed checked linked wanted error is (inl told) = inr (inl (rw is at told))
refused_audit lock placed checked linked wanted error is (inr memory) = inr (inr (inr (inr memory)))

pub refused_lock : (lock placed : Data) (linked : List LinkedValue) (wanted : WantedValue) (error : RunError)
    → IsLockRefused placed wanted.manifest error → IsRefused lock placed linked wanted error
refused_lock lock placed linked wanted error told = inr (inr (inr told))

-- a file of a later version is refused as it is, and one that was converted has no fault
module _ (placed checked : Data) (manifest : Option Data) (error : RunError) (later : is_version_one checked ≡ false) where
  by_version : (one : Bool) → is_version_one placed ≡ one → checked ≡ converted placed manifest
      → (is_version_one placed ≡ true → lock_fault checked ≡ None) → IsLockRefused checked None error
      → IsLockRefused placed manifest error
  by_version one version is sound (inr memory) = inr memory
  by_version true version is sound (inl (found, same, fault)) =
      let some : lock_fault checked ≡ Some found.fault = rw later at fault in
      let never : None ≡ Some found.fault = sym (sound version) ∙ some in cc never
  by_version false version is sound (inl (found, same, fault)) =
      let stays : checked ≡ placed = rw version at is in
      let there : any_fault placed manifest ≡ Some found.fault = rw version (rw stays at (rw later at fault)) in
      inl (found, same, there)

  pub refused_sound : checked ≡ converted placed manifest → (is_version_one placed ≡ true → lock_fault checked ≡ None)
      → IsLockRefused checked None error → IsLockRefused placed manifest error
  refused_sound = by_version (is_version_one placed) refl

-- a function that returns only where there is no fault returns an error if there is one
pub is_refused : {T E : Type 0} (result : Result T E) (found : Option Fault) (fault : Fault) → found ≡ Some fault
    → OnOk result (found ≡ None) → IsErr result
is_refused (Ok x) found fault is none = let never : None ≡ Some fault = sym none ∙ is in cc never
is_refused (Err error) found fault is none = refl

-- a view of an option is there if the option is, and a view of a list has the same length
pub some_same : {A B : Type 0} (f : A → B) (value : Option A) → is_some value ≡ is_some (option_map f value)
some_same f None = refl
some_same f (Some x) = refl

pub length_same : {A B : Type 0} (f : A → B) (list : List A) → length list ≡ length (map f list)
length_same f list = simp length-map
