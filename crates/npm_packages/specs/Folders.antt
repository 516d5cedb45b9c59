-- Folders of packages, as the keys of `packages` in a lock file write them: npm's "package-lock.json", "packages".
use Rattle.std.specs.Prelude.{◌≡◌, ◌≢◌, ◌⊎◌, ◌||◌, ◌&&◌, ◌==◌, ◌<◌, ℕ, List, [], ◌∷◌, ◌++◌, Bool, false, true, IsTrue}
use Rattle.std.specs.Prelude.{bytes_eq, codes, if◌then◌else◌, length, nat_eq, nat_le, not, slice_index}
use Rattle.std.specs.Char.Escape.{backslash}
use Rattle.std.specs.List.{ends_with, list_all, list_any, slice_split, starts_with}
use Rattle.std.specs.Path.{slash}
use Rattle.std.specs.Str.Iter.{HasSubslice}

-- a path inside a folder: `node_modules/a` is in the root, `b/node_modules/a` in `b`
abbrev pub in_folder : (folder path : List ℕ) → List ℕ
in_folder [] path = path
in_folder (b ∷ folder) path = (b ∷ folder) ++ (codes "/" ++ path)

-- the folder of a package in the `node_modules` of a folder
abbrev pub place_in : (folder name : List ℕ) → List ℕ
place_in folder name = in_folder folder (codes "node_modules/" ++ name)

-- a folder that leads up from the root: `..`, `../..` and so on
abbrev pub is_up : List ℕ → Bool
is_up folder = bytes_eq folder (codes "..") || ends_with nat_eq folder (codes "/..")

-- the folder above: `a/b` is above `a/b/c`, the root above `a`, and `..` above `../a`
pub record IsAbove (folder above : List ℕ) : Type 0 where
  pub inside : is_up folder ≡ false
  pub name : List ℕ
  pub one_part : (i : ℕ) → i < length name → slice_index name i ≢ slash
  pub whole : (folder ≡ above ++ (codes "/" ++ name)) ⊎ ((above ≡ []) × (folder ≢ []) × (folder ≡ name))

-- a folder that no folder is above: the root, and a folder that leads up from it
abbrev pub IsOutermost : List ℕ → Type 0
IsOutermost folder = (folder ≡ []) ⊎ (is_up folder ≡ true)

-- a folder that holds packages and is none
abbrev pub is_modules : List ℕ → Bool
is_modules folder = bytes_eq folder (codes "node_modules") || ends_with nat_eq folder (codes "/node_modules")

-- the folder lies inside some `node_modules`
abbrev pub IsInstalled : List ℕ → Type 0
IsInstalled folder = IsTrue (starts_with nat_eq folder (codes "node_modules/"))
    ⊎ HasSubslice folder (codes "/node_modules/")

-- ---- which keys are folders

-- the parts of a path: `node_modules` and `a` of `node_modules/a`. The empty path has one part, which is empty.
abbrev pub parts_of : (path : List ℕ) → List (List ℕ)
parts_of path = slice_split (λ b. b == slash) path

-- A part that leads one folder down: it is not empty, not `.` or `..`, and has no `\`, for which npm writes `/`.
abbrev pub is_step : (part : List ℕ) → Bool
is_step part = not (length part == 0) && not (bytes_eq part (codes ".")) && not (bytes_eq part (codes ".."))
    && not (list_any (λ b. b == backslash) part)

-- the parts without each `..` at their start
abbrev pub below_up : (parts : List (List ℕ)) → List (List ℕ)
below_up [] = []
below_up (part ∷ parts) = if bytes_eq part (codes "..") then below_up parts else part ∷ parts

-- the parts lead up alone, or down alone, or first up and then down
abbrev pub are_straight : (parts : List (List ℕ)) → Bool
are_straight parts = list_all is_step (below_up parts)

abbrev pub is_straight : (path : List ℕ) → Bool
is_straight path = are_straight (parts_of path)

-- the last part is `node_modules`: such a folder holds packages, and npm finds none of them if it is one itself
abbrev pub ends_in_modules : (parts : List (List ℕ)) → Bool
ends_in_modules [] = false
ends_in_modules (part ∷ []) = bytes_eq part (codes "node_modules")
ends_in_modules (part ∷ next ∷ parts) = ends_in_modules (next ∷ parts)

-- The folder of a package as npm writes it, the shortest path from the root: `node_modules/a`, `w`, `../x`, and the empty
-- path. It has at most 4,096 bytes, as a path of Linux, and is no `node_modules`.
abbrev pub is_folder : (path : List ℕ) → Bool
is_folder path = (length path == 0)
    || (nat_le (length path) 4096 && (is_straight path && not (ends_in_modules (parts_of path))))
