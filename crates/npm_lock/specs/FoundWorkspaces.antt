-- A workspace that was found on disk, beside the lock file: npm's "workspaces". The root depends on each workspace, and
-- npm links it in the root's `node_modules` under its name.
use Rattle.std.specs.Prelude.{ℕ, List, [], ◌++◌, Bool, true, false, if◌then◌else◌, Option, Some, None, option_and_then}
use Rattle.std.specs.Prelude.{option_map, bytes_eq, codes}
use Rattle.std.specs.Option.{option_map_or}
use Rattle.serde_json.specs.Data.{Data, object}
use Rattle.serde_json.specs.Find.{as_object, get}
use Rattle.npm_packages.specs.Asked.{AskedValue, asked_of}
use Rattle.npm_packages.specs.Edges.{edge_of}
use Rattle.npm_packages.specs.Folders.{place_in}
use Rattle.npm_lock.specs.Outcomes.{ProblemValue, dependency_of}
use Rattle.npm_packages.specs.Packages.{Package, package_at}
use Rattle.npm_lock.specs.declared.problem.Kind.{Kind}
use Rattle.npm_lock.specs.declared.problem.Kind.TheVariants.{Invalid, Missing}

-- the dependency of the root: `file:packages/a` for the workspace in the folder `packages/a`
abbrev pub asked_folder : (folder : List ℕ) → AskedValue
asked_folder folder = record {
  spec = codes "file:" ++ folder;
  is_needed = true;
  is_peer = false;
  is_dev = false;
  is_overridden = false;
}

-- the root itself depends on the name, and it must be found
abbrev pub is_needed : (root : Data) → (name : List ℕ) → Bool
is_needed root name = option_map_or (λ asked. asked.is_needed) (asked_of root false name) false

-- What is wrong with the package that the root finds under the workspace's name: it is in another folder, or there is
-- none. If the root itself depends on a name that is found nowhere, that is a problem of its own, and no second one.
abbrev pub kind_of : (root : Data) → (package_found : Option Package) → (name folder : List ℕ) → Option Kind
kind_of root None name folder = if is_needed root name then None else Some Missing
kind_of root (Some found) name folder = if bytes_eq found.folder folder then None else Some Invalid

-- the problem with a workspace of this name and folder
abbrev pub problem_with : (root : Data) → (package_found : Option Package) → (name folder : List ℕ)
    → Option ProblemValue
problem_with root found name folder = option_map
    (λ kind. record { kind = kind; dependency = dependency_of root (edge_of [] name (asked_folder folder) found) })
    (kind_of root found name folder)

-- the problem with a workspace beside a lock file, of which the package in the folder `""` is the root
abbrev pub workspace_problem : (lock : Data) → (name folder : List ℕ) → Option ProblemValue
workspace_problem lock name folder = option_and_then
    (λ members. option_and_then
    (λ root. problem_with root (package_at (object members) (place_in [] name)) name folder)
    (get [] (object members)))
    (option_and_then as_object (get (codes "packages") lock))
