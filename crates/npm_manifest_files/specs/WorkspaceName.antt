-- The name of a workspace: npm's "workspaces". It is that of its manifest, or else that of its folder.
use Rattle.std.specs.Prelude.{◌++◌, ℕ, List, [], ◌∷◌, if◌then◌else◌, Option, Some, None, option_and_then}
use Rattle.std.specs.Prelude.{codes, nat_eq}
use Rattle.std.specs.List.{starts_with}
use Rattle.serde_json.specs.Data.{Data}
use Rattle.serde_json.specs.Find.{as_str, get}
use Rattle.npm_manifest_files.specs.Paths.{above_part, last_part}

-- the name of a folder: `w` of `/p/w`, and `@s/w` of `/p/@s/w`, where the folder above has the name of a scope
abbrev pub folder_name : (path : List ℕ) → List ℕ
folder_name path = if starts_with nat_eq (last_part (above_part path)) (codes "@")
    then last_part (above_part path) ++ (codes "/" ++ last_part path)
    else last_part path

-- a name, or that of the folder if it is empty or there is none
abbrev pub name_or_folder : (name : Option (List ℕ)) → (path : List ℕ) → List ℕ
name_or_folder None path = folder_name path
name_or_folder (Some []) path = folder_name path
name_or_folder (Some (b ∷ name)) path = b ∷ name

-- the name of the workspace with this manifest, at this path
abbrev pub workspace_name : (manifest : Data) → (path : List ℕ) → List ℕ
workspace_name manifest path = name_or_folder (option_and_then as_str (get (codes "name") manifest)) path
