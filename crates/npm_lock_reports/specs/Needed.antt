-- What packages that are not left out need, and is left out: npm's "npm ci", "omit", which reads the marks of the file as they are, by
-- `addOmitsToTrashList` of its `arborist`.
use Rattle.std.specs.Prelude.{◌≡◌, ◌&&◌, ◌||◌, ℕ, List, [], ◌∷◌, Bool, false, true, not, if◌then◌else◌, Option, None, Some}
use Rattle.std.specs.List.{filter_map}
use Rattle.std.specs.Option.{option_map_or}
use Rattle.serde_json.specs.Data.{Data}
use Rattle.npm_packages.specs.Edges.{AreLockEdges, EdgeValue}
use Rattle.npm_lock.specs.Mismatches.{entry_of, member_at}
use Rattle.npm_lock.specs.Outcomes.{DependencyValue, dependency_of}
use Rattle.npm_lock_reports.specs.Omissions.{is_marked_out}
use Rattle.npm_lock_reports.specs.Projects.{is_in_project}
use Rattle.npm_lock_reports.specs.declared.omissions.Omissions.{Omissions}

-- ---- packages

-- The package in a folder has a mark by which packages are left out. Marks of the root count for nothing.
abbrev pub is_marked_at : Omissions → (lock : Data) → (folder : List ℕ) → Bool
is_marked_at omissions lock [] = false
is_marked_at omissions lock (byte ∷ folder) = option_map_or (is_marked_out omissions) (member_at lock (byte ∷ folder)) false

-- the folder is the root, a workspace, or what npm installs for them
abbrev pub is_of_project : (lock : Data) → (folder : List ℕ) → Bool
is_of_project lock [] = true
is_of_project lock (byte ∷ folder) = is_in_project lock (byte ∷ folder)

-- What a package in one folder finds in another is left out. npm leaves out what it installs for the project. So a folder that a link names
-- is left out where the link is: in the `node_modules` of the package that asks, or above it.
abbrev pub finds_left_out : Omissions → (lock : Data) → (from to : List ℕ) → Bool
finds_left_out omissions lock from to =
    is_marked_at omissions lock to && (is_of_project lock to || is_of_project lock from)

-- ---- dependencies

-- The dependency is needed: it is neither optional nor one of `devDependencies`, if those are left out, and the package that asks is not
-- marked. What npm installs for a linked folder is not left out, but nobody needs it if it is marked.
abbrev pub is_needed : Omissions → (lock : Data) → EdgeValue → Bool
is_needed omissions lock edge =
    edge.is_needed && (not (omissions.dev && edge.is_dev) && not (is_marked_at omissions lock edge.from))

-- the package that is found for it is left out
abbrev pub is_left_out : Omissions → (lock : Data) → EdgeValue → Bool
is_left_out omissions lock edge = option_map_or (finds_left_out omissions lock edge.from) edge.to false

-- the dependency, with the version and the marks of the package that asks
abbrev pub told_if : Omissions → (lock : Data) → EdgeValue → Option DependencyValue
told_if omissions lock edge = if is_needed omissions lock edge && is_left_out omissions lock edge
    then Some (dependency_of (entry_of lock edge.from) edge)
    else None

abbrev pub told_in : Omissions → (lock : Data) → List EdgeValue → List DependencyValue
told_in omissions lock edges = filter_map (told_if omissions lock) edges

-- ---- a lock file

-- the dependencies that are needed and left out: of the packages in the order of their folders, of each by the names
pub record AreNeeded (omissions : Omissions) (lock : Data) (found : List DependencyValue) : Type 0 where
  pub edges : List EdgeValue
  pub are_edges : AreLockEdges lock edges
  pub whole : found ≡ told_in omissions lock edges
