-- Why the values of a lock file, of a manifest and of advisories are refused: one of them has a fault, or memory ran
-- out.
use Rattle.std.specs.Prelude.{◌≡◌, ◌⊎◌, ℕ, List, Option, Some, string_bytes}
use Rattle.toml_datetime.specs.declared.datetime.Date.{Date}
use Rattle.serde_json.specs.Data.{Data}
use Rattle.npm_lock.specs.Mismatches.{manifest_fault}
use Rattle.npm_lock.specs.VersionOne.{converted}
use Rattle.npm_packages.specs.declared.fault.Fault.{Fault}
use Rattle.npm_lock_findings.specs.declared.faults.fault_place.FaultPlace.{FaultPlace}
use Rattle.npm_advisories.specs.declared.fault.FaultKind.{FaultKind}
use Rattle.npm_manifest_files.specs.Linked.{LinkedValue}
use Rattle.npm_lock_check.specs.Check.{AreNoAdvisories, IsNoLinked, IsNoLockFile, IsNoManifest, IsNoOwnFolder}
use Rattle.npm_lock_findings.specs.declared.faults.place.ShownPlace.{ShownPlace}
use Rattle.npm_lock_check.specs.Report.{WantedValue}
use Rattle.npm_lock_reports.specs.declared.folder_name.FolderName.{FolderName}
use Rattle.npm_lock_check.specs.declared.checks.list_name.ListName.{ListName}
use Rattle.npm_lock_check.specs.declared.checks.run_error.RunError.{RunError}
use Rattle.npm_lock_check.specs.declared.checks.run_error.RunError.TheVariants.{Memory, NoAdvisories, NoLinked, NoLockFile}
use Rattle.npm_lock_check.specs.declared.checks.run_error.RunError.TheVariants.{NoManifest}

-- the manifest
abbrev pub IsManifestRefused : (manifest : Data) → RunError → Type 0
IsManifestRefused manifest error = ((fault : Fault) × (error ≡ NoManifest fault) ×
    (manifest_fault manifest ≡ Some fault))
    ⊎ (error ≡ Memory)

-- the manifest in this folder of a link
abbrev pub IsOneRefused : LinkedValue → RunError → Type 0
IsOneRefused one error = ((name : FolderName) × (fault : Fault) × (error ≡ NoLinked name fault)
    × (string_bytes name.text ≡ one.folder) × (manifest_fault one.manifest ≡ Some fault))
    ⊎ (error ≡ Memory)

-- the manifests in folders of links
abbrev pub AreLinkedRefused : List LinkedValue → RunError → Type 0
AreLinkedRefused linked error =
    ((name : FolderName) × (fault : Fault) × (error ≡ NoLinked name fault) × IsNoLinked linked name fault)
    ⊎ (error ≡ Memory)

-- the manifests that are compared with the lock file
abbrev pub IsCompareRefused : (lock : Data) → (manifest : Option Data) → (linked : List LinkedValue) → RunError
    → Type 0
IsCompareRefused lock manifest linked error =
    ((fault : Fault) × (error ≡ NoManifest fault) × IsNoManifest lock manifest fault) ⊎ AreLinkedRefused linked error

-- the lock file, with the manifests in their places
abbrev pub IsLockRefused : (placed : Data) → (manifest : Option Data) → RunError → Type 0
IsLockRefused placed manifest error =
    ((found : FaultPlace) × (error ≡ NoLockFile found) × IsNoLockFile placed manifest found.fault) ⊎ (error ≡ Memory)

-- a lock file of which npm reads a member as another folder of the project
abbrev pub IsFolderRefused : (checked : Data) → (project : List ℕ) → RunError → Type 0
IsFolderRefused checked project error =
    ((found : FaultPlace) × (error ≡ NoLockFile found) × IsNoOwnFolder checked project) ⊎ (error ≡ Memory)

-- a fault of advisories of this kind
abbrev pub AreRefusedAs : FaultKind → RunError → Type 0
AreRefusedAs kind error = ((name : ListName) × (place : ℕ) × (shown : ShownPlace)
    × (error ≡ NoAdvisories kind name place shown)) ⊎ (error ≡ Memory)

-- the advisories of a check
abbrev pub AreAdvisoriesRefused : (today : Date) → (checked : Data) → (advisories : Option Data) → RunError → Type 0
AreAdvisoriesRefused today checked advisories error = (kind : FaultKind) × (name : ListName) × (place : ℕ)
    × (shown : ShownPlace) × (error ≡ NoAdvisories kind name place shown) × AreNoAdvisories today checked advisories kind

-- the advisories beside a lock file without a fault
abbrev pub IsAuditRefused : (today : Date) → (checked : Data) → (advisories : Option Data) → RunError → Type 0
IsAuditRefused today checked advisories error = AreAdvisoriesRefused today checked advisories error ⊎ (error ≡ Memory)

-- any of them
abbrev pub IsRefused : (lock placed : Data) → (linked : List LinkedValue) → WantedValue → RunError → Type 0
IsRefused lock placed linked wanted error = IsCompareRefused lock wanted.manifest linked error
    ⊎ AreAdvisoriesRefused wanted.today (converted placed wanted.manifest) wanted.advisories error
    ⊎ IsFolderRefused (converted placed wanted.manifest) wanted.project error
    ⊎ IsLockRefused placed wanted.manifest error
