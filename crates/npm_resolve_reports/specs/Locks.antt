-- The lock file of what is selected.
use Rattle.std.specs.Prelude.{◌≡◌, ℕ, List, [], ◌∷◌, MatchOption, None, Option, Some, bytes_eq, codes, flat_map}
use Rattle.std.specs.Prelude.{if◌then◌else◌, option_and_then, slice_get, string_bytes}
use Rattle.std.specs.Option.{option_map_or}
use Rattle.serde_json.specs.Data.{Data}
use Rattle.serde_json.specs.Find.{get}
use Rattle.serde_json.specs.View.{view}
use Rattle.serde_json.specs.declared.value.Value.{Value}
use Rattle.npm_resolve.specs.Installed.{InstalledValue}
use Rattle.npm_resolve.specs.Lock.{IsLock}
use Rattle.npm_resolve.specs.LockText.{IsLockText}
use Rattle.npm_resolve.specs.Answers.{ChosenValue}
use Rattle.npm_resolve.specs.declared.documents.Document.{Document}

-- ---- what is installed

-- the first document of a name
abbrev pub packument_of : List Document → (name : List ℕ) → Option Data
packument_of [] name = None
packument_of (document ∷ others) name = if bytes_eq (string_bytes document.name) name then Some (view document.packument)
    else packument_of others name

-- what it says of a version
abbrev pub manifest_of : List Document → (name key : List ℕ) → Option Data
manifest_of documents name key = option_and_then (get key) (option_and_then (get (codes "versions")) (packument_of documents name))

-- A version that is selected is installed under its name. Each has a document with the version.
abbrev pub installed_by : List Document → ChosenValue → List InstalledValue
installed_by documents one = option_map_or (λ manifest. record {
  name = one.name;
  of_package = one.of_package;
  version = one.key;
  manifest = manifest;
} ∷ []) (manifest_of documents one.name one.key) []

abbrev pub all_installed : List Document → List ChosenValue → List InstalledValue
all_installed documents chosen = flat_map (installed_by documents) chosen

-- ---- the file

-- the lock file for a manifest
pub record AreLockLinesFor (root : Value) (documents : List Document) (chosen : List ChosenValue) (lines : List ℕ) : Type 0 where
  pub lock : Data
  pub is : IsLock (view root) (all_installed documents chosen) lock
  pub written : IsLockText lock lines

-- the lock file for the first manifest
abbrev pub AreLockLines : List Value → List Document → List ChosenValue → (lines : List ℕ) → Type 0
AreLockLines manifests documents chosen lines = MatchOption (slice_get manifests 0) (lines ≡ [])
    (λ root. AreLockLinesFor root documents chosen lines)
