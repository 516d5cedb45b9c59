-- Parts of a path.
use Rattle.std.specs.Prelude.{◌≡◌, ◌≢◌, ◌++◌, ℕ, Bool, List, [], ◌∷◌, if◌then◌else◌, codes}
use Rattle.std.specs.List.{list_any}
use Rattle.npm_texts.specs.SpecGrammar.{is_slash}
use Rattle.npm_texts.specs.Texts.{without_end}

abbrev pub has_slash : (path : List ℕ) → Bool
has_slash path = list_any is_slash path

-- what comes after the last `/` of a path: `w` of `/p/w`, and all of `w`
abbrev pub last_part : (path : List ℕ) → List ℕ
last_part [] = []
last_part (b ∷ path) = if has_slash path then last_part path else (if is_slash b then path else b ∷ path)

-- what comes before it: `/p` of `/p/w`, and nothing of `w`
abbrev pub above_part : (path : List ℕ) → List ℕ
above_part [] = []
above_part (b ∷ path) = if has_slash path then b ∷ above_part path else []

-- the folder of a file: `a` of `a/package.json`, the empty one of `/package.json`, and `.` of `package.json`
abbrev pub folder_of : (path : List ℕ) → List ℕ
folder_of path = if has_slash path then above_part path else codes "."

-- the path of such a folder: `/` of the empty one
abbrev pub path_of_folder : (folder : List ℕ) → List ℕ
path_of_folder [] = codes "/"
path_of_folder (b ∷ folder) = b ∷ folder

-- The path is below the folder: the whole path of the folder comes first, and then `/` and more. `/p/w` is below `/p` and below `/`,
-- and `/p-w` is not below `/p`.
pub record IsBelow (folder path : List ℕ) : Type 0 where
  pub rest : List ℕ
  pub more : rest ≢ []
  pub whole : path ≡ without_end (codes "/") folder ++ (codes "/" ++ rest)
