-- Which folders are workspaces of the root: npm's "package.json", "workspaces".
use Rattle.std.specs.Prelude.{◌≡◌, ◌≢◌, ◌⊎◌, ℕ, List, [], ◌∷◌}
use Rattle.std.specs.Prelude.{IsSomeAnd, Option, Some, None, codes, option_and_then, option_map}
use Rattle.std.specs.Option.{option_map_or, option_or}
use Rattle.serde_json.specs.Data.{Data, Items, item, no_items}
use Rattle.serde_json.specs.Find.{as_array, as_str, get}
use Rattle.npm_packages.specs.Folders.{IsInstalled}
use Rattle.npm_packages.specs.Packages.{IsNamed, Package, linked_folder}
use Rattle.npm_lock.specs.PatternGrammar.{IsLiteral, IsRead, Matches, parts_of}
use Rattle.npm_lock.specs.Tarballs.{after_slashes}
use Rattle.npm_lock.specs.declared.workspace.Workspace.{Workspace}
use Rattle.npm_lock.specs.declared.workspace.Workspace.TheVariants.{Is, IsNot, Unread}

-- the patterns of the root: `{"workspaces": ["w"]}`, or `{"workspaces": {"packages": ["w"]}}`
abbrev pub patterns_of : (root : Data) → Option Items
patterns_of root = option_and_then
    (λ said. option_or (option_and_then as_array (get (codes "packages") said)) (as_array said))
    (get (codes "workspaces") root)

-- the pattern of a text, which may begin with `./` or `/`: `w` of `./w`, of `/w` and of `.//w`
abbrev pub pattern_of : (text : List ℕ) → List ℕ
pattern_of text = after_slashes (linked_folder text)

-- the parts of the pattern that a value of the list is, if it is a text
abbrev pub pattern_in : (value : Data) → Option (List (List ℕ))
pattern_in value = option_map (λ text. parts_of (pattern_of text)) (as_str value)

-- each value of the list is a pattern that is read
abbrev pub AreRead : Items → Type 0
AreRead no_items = Unit {0}
AreRead (item value others) = IsSomeAnd (pattern_in value) IsRead × AreRead others

-- each value of the list is a pattern that matches the paths that it says
abbrev pub AreLiteral : Items → Type 0
AreLiteral no_items = Unit {0}
AreLiteral (item value others) = IsSomeAnd (pattern_in value) IsLiteral × AreLiteral others

-- the folder matches one of the patterns
abbrev pub MatchesOne : (folder : List ℕ) → Items → Type 0
MatchesOne folder no_items = ⊥
MatchesOne folder (item value others) =
    IsSomeAnd (pattern_in value) (λ pattern. Matches pattern (parts_of folder)) ⊎ MatchesOne folder others

-- whether the folder is a workspace, by these patterns. If one is not read, or matches other paths than it says, that is not
-- known.
pub data IsByPatterns (folder : List ℕ) (patterns : Items) : Workspace → Type 0 where
  unread : ¬ AreLiteral patterns → IsByPatterns folder patterns Unread
  one_matches : AreLiteral patterns → MatchesOne folder patterns → IsByPatterns folder patterns Is
  none_matches : AreLiteral patterns → ¬ MatchesOne folder patterns → IsByPatterns folder patterns IsNot

-- Whether the folder of a package that was found for a package in the folder `from` is a workspace. Only the root has
-- workspaces, and no folder inside a `node_modules` is one.
pub data IsWorkspace (from : List ℕ) (asker : Data) (folder : List ℕ) : Workspace → Type 0 where
  elsewhere : from ≢ [] → IsWorkspace from asker folder IsNot
  installed : IsInstalled folder → IsWorkspace from asker folder IsNot
  no_patterns : patterns_of asker ≡ None → IsWorkspace from asker folder IsNot
  of_root : (patterns : Items) (found : Workspace) → from ≡ [] → ¬ IsInstalled folder
      → patterns_of asker ≡ Some patterns → IsByPatterns folder patterns found → IsWorkspace from asker folder found

-- Whether the package that was found under a name is a workspace. A workspace is found under its own name alone: `b`, linked to
-- the workspace `a`, is none. What is no workspace is none under any name.
pub data IsWorkspaceAs (from : List ℕ) (asker : Data) (name : List ℕ) (package_found : Package) : Workspace → Type 0 where
  by_name : (found : Workspace) → IsNamed package_found name → IsWorkspace from asker package_found.folder found
      → IsWorkspaceAs from asker name package_found found
  other_name : ¬ IsNamed package_found name → IsWorkspaceAs from asker name package_found IsNot
  no_workspace : IsWorkspace from asker package_found.folder IsNot → IsWorkspaceAs from asker name package_found IsNot

-- ---- the patterns themselves

-- the patterns of those that are texts: `w` and `packages/*` of `["./w", "packages/*"]`
abbrev pub texts_of : Items → List (List ℕ)
texts_of no_items = []
texts_of (item pattern others) =
    option_map_or (λ text. pattern_of text ∷ texts_of others) (as_str pattern) (texts_of others)

-- the patterns of the root, or nothing if one of them is not read; a root that has none has no workspaces
pub data ArePatternsOfRoot (root : Data) : Option (List (List ℕ)) → Type 0 where
  no_list : patterns_of root ≡ None → ArePatternsOfRoot root (Some [])
  all_read : (patterns : Items) → patterns_of root ≡ Some patterns → AreRead patterns
      → ArePatternsOfRoot root (Some (texts_of patterns))
  some_unread : (patterns : Items) → patterns_of root ≡ Some patterns → ¬ AreRead patterns → ArePatternsOfRoot root None
