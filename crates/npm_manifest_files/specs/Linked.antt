-- The manifests of workspaces, and of other packages that links of a lock file name: npm's "workspaces".
use Rattle.std.specs.Prelude.{ℕ, List, [], ◌∷◌, ◌++◌, Result, Ok, codes, map, string_bytes}
use Rattle.serde_json.specs.Data.{Data}
use Rattle.serde_json.specs.View.{view}
use Rattle.npm_lock_reports.specs.Unread.{UnreadValue, manifest_in, unread_value, workspaces_on_disk}
use Rattle.npm_manifest_files.specs.WorkspaceName.{workspace_name}
use Rattle.npm_manifest_files.specs.declared.linked.Found.{Found}
use Rattle.npm_manifest_files.specs.declared.linked.Found.TheVariants.{Manifest, Nothing, Unread}
use Rattle.npm_manifest_files.specs.declared.linked.Linked.{Linked}
use Rattle.npm_manifest_files.specs.declared.linked.Loaded.{Loaded}
use Rattle.npm_manifest_files.specs.declared.linked.Workspace.{Workspace}
use Rattle.npm_manifest_files.specs.declared.load_error.LoadError.{LoadError}

-- a manifest, and the folder of its package
pub record LinkedValue : Type 0 where
  pub folder : List ℕ
  pub manifest : Data

-- what a contract sees of it
abbrev pub linked_value : Linked → LinkedValue
linked_value linked = record { folder = string_bytes linked.folder; manifest = view linked.manifest }

-- a workspace that was found on disk: its name, and its folder
pub record WorkspaceValue : Type 0 where
  pub name : List ℕ
  pub folder : List ℕ

-- what a contract sees of it
abbrev pub workspace_value : Workspace → WorkspaceValue
workspace_value workspace = record { name = string_bytes workspace.name; folder = string_bytes workspace.folder }

-- the workspace with this manifest, in a folder below this one
abbrev pub workspace_in : (manifest : Data) → (above folder : List ℕ) → WorkspaceValue
workspace_in manifest above folder =
    record { name = workspace_name manifest (above ++ (codes "/" ++ folder)); folder = folder }

-- the manifests that were read, what was not looked at, and the workspaces that were found on disk
pub record LoadedValue : Type 0 where
  pub linked : List LinkedValue
  pub unread : List UnreadValue
  pub workspaces : List WorkspaceValue

-- a contract sees the values of these
abbrev pub loaded_value : Loaded → LoadedValue
loaded_value loaded = record {
  linked = map linked_value loaded.linked.items;
  unread = map unread_value loaded.unread.items;
  workspaces = map workspace_value loaded.workspaces.items;
}

abbrev pub nothing_loaded : LoadedValue
nothing_loaded = record { linked = []; unread = []; workspaces = [] }

-- without the workspaces on disk, since a pattern of them is not read
abbrev pub without_workspaces : LoadedValue → LoadedValue
without_workspaces loaded = record loaded { unread = loaded.unread ++ (workspaces_on_disk ∷ []) }

-- with the manifest of one more folder, if it has one
abbrev pub with_found : (folder : List ℕ) → Found → LoadedValue → LoadedValue
with_found folder Nothing loaded = loaded
with_found folder Unread loaded = record loaded { unread = loaded.unread ++ (manifest_in folder ∷ []) }
with_found folder (Manifest manifest) loaded =
    record loaded { linked = loaded.linked ++ (record { folder = folder; manifest = view manifest } ∷ []) }

-- the manifests of these folders, in their order, after those that were loaded before
pub data AreReadAfter (Gives : (folder : List ℕ) → Result Found LoadError → Type 0)
    : (before : LoadedValue) → (folders : List (List ℕ)) → (after : LoadedValue) → Type 0 where
  no_folder : (loaded : LoadedValue) → AreReadAfter Gives loaded [] loaded
  one_more : (before : LoadedValue) (folder : List ℕ) (folders : List (List ℕ)) (found : Found) (after : LoadedValue)
      → Gives folder (Ok found) → AreReadAfter Gives (with_found folder found before) folders after
      → AreReadAfter Gives before (folder ∷ folders) after

-- what reading each of these folders gave, in their order
abbrev pub AreRead : (Gives : (folder : List ℕ) → Result Found LoadError → Type 0) → (folders : List (List ℕ))
    → LoadedValue → Type 0
AreRead Gives folders loaded = AreReadAfter Gives nothing_loaded folders loaded
