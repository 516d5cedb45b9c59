-- Where the manifest of a workspace is, beside that of the root, and why it was not read.
use Rattle.std.specs.Prelude.{◌≡◌, ◌≢◌, ◌⊎◌, ◌++◌, ℕ, List, Option, Some, Result, Ok, Err, codes, string_bytes}
use Rattle.std.specs.declared.io.ErrorKind.{ErrorKind}
use Rattle.std.specs.declared.io.ErrorKind.TheVariants.{NotFound}
use Rattle.serde_json.specs.Data.{Data}
use Rattle.command_lines.specs.Inputs.{IsInputText}
use Rattle.command_lines.specs.WatchedValue.{WatchedValue}
use Rattle.npm_lock.specs.Mismatches.{manifest_fault}
use Rattle.npm_lock_findings.specs.declared.faults.fault_place.FaultPlace.{FaultPlace}
use Rattle.npm_lock_reports.specs.declared.folder_name.FolderName.{FolderName}
use Rattle.npm_manifest_files.specs.declared.linked.Found.{Found}
use Rattle.npm_manifest_files.specs.declared.linked.Found.TheVariants.{Nothing}
use Rattle.npm_manifest_files.specs.declared.load_error.LoadError.{LoadError}
use Rattle.npm_manifest_files.specs.declared.load_error.LoadError.TheVariants.{Memory, Open, Read}
use Rattle.npm_manifest_files.specs.declared.load_error.ManifestError.{ManifestError}

-- the manifest of the package in a folder, which is inside another
abbrev pub path_of : (outer folder : List ℕ) → List ℕ
path_of outer folder = outer ++ (codes "/" ++ (folder ++ codes "/package.json"))

-- a manifest was read, and it has this fault
pub record IsFaultyInput {R : Type 0} (remaining : R → Option (List ℕ)) (old new : WatchedValue R) (found : FaultPlace)
    : Type 0 where
  pub manifest : Data
  pub text : List ℕ
  pub input : IsInputText remaining old new text manifest
  pub fault : manifest_fault manifest ≡ Some found.fault

-- the error of a file in this folder that was not opened
abbrev pub IsNotOpened : (folder : List ℕ) → LoadError → Type 0
IsNotOpened folder result =
    ((name : FolderName) × (string_bytes name.text ≡ folder) × (result ≡ Open name)) ⊎ (result ≡ Memory)

-- the result for a file that was not opened for this reason: nothing if it is not there
abbrev pub IsNoFile : (folder : List ℕ) → ErrorKind → Result Found LoadError → Type 0
IsNoFile folder kind result = ((kind ≡ NotFound) × (result ≡ Ok Nothing))
    ⊎ ((kind ≢ NotFound) × (error : LoadError) × IsNotOpened folder error × (result ≡ Err error))

-- the error of a file in this folder that was not read
abbrev pub IsNotRead : (folder : List ℕ) → ManifestError → LoadError → Type 0
IsNotRead folder error result =
    ((name : FolderName) × (string_bytes name.text ≡ folder) × (result ≡ Read name error)) ⊎ (result ≡ Memory)
