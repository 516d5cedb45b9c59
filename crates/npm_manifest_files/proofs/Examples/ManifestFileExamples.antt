-- What the definitions say of manifests on disk.
use Rattle.std.proofs.Common.{◌≡◌, ◌∷◌, ℕ, List, [], Result, Ok, ap, arith, codes, length, refl}
use Rattle.serde_json.specs.Data.{Data, member, no_members, object, string}
use Rattle.serde_json.specs.View.{view}
use Rattle.serde_json.specs.declared.value.Value.{Value}
use Rattle.npm_lock_reports.specs.Unread.{manifest_in, workspaces_on_disk}
use Rattle.npm_manifest_files.specs.Linked.{AreRead, LinkedValue, no_folder, nothing_loaded, one_more, without_workspaces}
use Rattle.npm_manifest_files.specs.ManifestFile.{path_of}
use Rattle.npm_manifest_files.specs.Paths.{IsBelow, folder_of, path_of_folder}
use Rattle.npm_manifest_files.specs.WorkspaceName.{folder_name, workspace_name}
use Rattle.npm_manifest_files.specs.declared.linked.Found.{Found}
use Rattle.npm_manifest_files.specs.declared.linked.Found.TheVariants.{Manifest, Nothing, Unread}
use Rattle.npm_manifest_files.specs.declared.load_error.LoadError.{LoadError}

abbrev one : (key : List ℕ) → Data → Data
one key value = object (member key value no_members)

abbrev at_w : Data → LinkedValue
at_w manifest = record { folder = codes "w"; manifest = manifest }

-- ---- manifests that are read

abbrev v_then_w : List (List ℕ)
v_then_w = codes "v" ∷ codes "w" ∷ []

module _ (Gives : (folder : List ℕ) → Result Found LoadError → Type 0) (manifest : Value) where
  -- a manifest that was read counts, and the folder of one that was not read is kept
  pub all_that_is_found : Gives (codes "v") (Ok Unread) → Gives (codes "w") (Ok (Manifest manifest))
      → AreRead Gives v_then_w (record { linked = at_w (view manifest) ∷ []; unread = manifest_in (codes "v") ∷ []; workspaces = [] })
  all_that_is_found v w = one_more _ _ _ _ _ v (one_more _ _ _ _ _ w (no_folder _))

  pub what_is_not_there_is_left_out : Gives (codes "v") (Ok Nothing) → Gives (codes "w") (Ok (Manifest manifest))
      → AreRead Gives v_then_w (record { linked = at_w (view manifest) ∷ []; unread = []; workspaces = [] })
  what_is_not_there_is_left_out v w = one_more _ _ _ _ _ v (one_more _ _ _ _ _ w (no_folder _))

-- ---- workspaces

pub a_pattern_that_is_not_read_is_told : without_workspaces nothing_loaded
    ≡ record { linked = []; unread = workspaces_on_disk ∷ []; workspaces = [] }
a_pattern_that_is_not_read_is_told = refl

pub the_name_of_the_manifest : workspace_name (one (codes "name") (string (codes "renamed"))) (codes "/p/w")
    ≡ codes "renamed"
the_name_of_the_manifest = refl

pub an_empty_name_is_that_of_the_folder : workspace_name (one (codes "name") (string [])) (codes "/p/w") ≡ codes "w"
an_empty_name_is_that_of_the_folder = refl

pub a_scope_is_in_the_name : folder_name (codes "/p/@s/w") ≡ codes "@s/w"
a_scope_is_in_the_name = refl

-- ---- files

pub beside_the_root : path_of (codes "..") (codes "w") ≡ codes "../w/package.json"
beside_the_root = refl

pub the_folder_of_a_path : folder_of (codes "a/") ≡ codes "a"
the_folder_of_a_path = refl

pub the_folder_of_a_file_of_the_root : folder_of (codes "/package.json") ≡ []
the_folder_of_a_file_of_the_root = refl

pub the_folder_of_a_name : folder_of (codes "package.json") ≡ codes "."
the_folder_of_a_name = refl

pub the_folder_of_a_file_below_the_root : path_of_folder (folder_of (codes "/package.json")) ≡ codes "/"
the_folder_of_a_file_below_the_root = refl

-- ---- paths below a folder

pub a_folder_in_it_is_below : IsBelow (codes "/p/project") (codes "/p/project/w")
a_folder_in_it_is_below = record { rest = codes "w"; more = λ none. cc none; whole = refl }

pub each_path_is_below_the_root : IsBelow (codes "/") (codes "/p")
each_path_is_below_the_root = record { rest = codes "p"; more = λ none. cc none; whole = refl }

pub a_name_that_begins_alike_is_not : ¬ IsBelow (codes "/p") (codes "/p-x")
a_name_that_begins_alike_is_not below =
    let dash : ℕ = 45 in
    let slash : ℕ = 47 in
    let same : dash ≡ slash = cc below.whole in
    omega (arith, same)

pub nor_is_the_folder_itself : ¬ IsBelow (codes "/p") (codes "/p")
nor_is_the_folder_itself below = omega (arith, ap (λ path. length path) below.whole)
