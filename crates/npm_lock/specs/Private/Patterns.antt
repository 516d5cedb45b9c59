-- What the sets of patterns of workspaces say of a folder.
use Rattle.std.specs.Prelude.{◌≡◌, ◌⊎◌, ◌++◌, ℕ, List, Bool, true, false, if◌then◌else◌}
use Rattle.std.specs.BTreeMap.{BTreeMap, get_by}
use Rattle.std.specs.Cmp.Lexicographic.{slice_cmp}
use Rattle.std.specs.Option.{IsSome}
use Rattle.std.specs.Ordering.{nat_cmp}
use Rattle.serde_json.specs.Data.{Data}
use denote.Ref.{Bor}
use Rattle.npm_packages.specs.Folders.{IsInstalled}
use Rattle.npm_lock.specs.Private.PatternSteps.{are_parts, is_part, is_whole}
use Rattle.npm_lock.specs.Workspaces.{IsWorkspace}
use Rattle.npm_lock.specs.declared.patterns.Patterns.{Patterns}
use Rattle.npm_lock.specs.declared.workspace.Workspace.{Workspace}
use Rattle.npm_lock.specs.declared.workspace.Workspace.TheVariants.{Is, IsNot, Unread}

-- the map has this text
abbrev pub HasText : {X : Type 0} → BTreeMap (Bor (List ℕ)) X → (text : List ℕ) → Type 0
HasText texts text = IsSome (get_by (λ k. slice_cmp nat_cmp text k.now) texts)

-- the rest of a folder that `**` matches if `is_tree`, and else that `*` does
abbrev pub is_rest : (is_tree : Bool) → (rest : List ℕ) → Bool
is_rest is_tree rest = if is_tree then are_parts rest else is_part rest

-- the folder begins with one of these texts, before one of its parts, and the stars match the rest
pub record HasStart {X : Type 0} (texts : BTreeMap (Bor (List ℕ)) X) (is_tree : Bool) (folder : List ℕ) : Type 0 where
  pub start : List ℕ
  pub rest : List ℕ
  pub whole : folder ≡ start ++ rest
  pub there : HasText texts start
  pub at_part : is_whole start ≡ true
  pub matched : is_rest is_tree rest ≡ true

-- one of the patterns is that of the folder
abbrev pub HasMatched : Patterns → (folder : List ℕ) → Type 0
HasMatched patterns folder = HasText patterns.folders folder ⊎ HasStart patterns.stars false folder
    ⊎ HasStart patterns.trees true folder

-- whether the folder is a workspace, by these sets
pub data IsSaid (patterns : Patterns) (folder : List ℕ) : Workspace → Type 0 where
  unread : patterns.has_unread ≡ true → IsSaid patterns folder Unread
  matched : patterns.has_unread ≡ false → HasMatched patterns folder → IsSaid patterns folder Is
  unmatched : patterns.has_unread ≡ false → ¬ HasMatched patterns folder → IsSaid patterns folder IsNot

-- these are the patterns of a package in the folder `from`
abbrev pub ArePatternsOf : (from : List ℕ) → (asker : Data) → Patterns → Type 0
ArePatternsOf from asker patterns = (folder : List ℕ) (found : Workspace) → ¬ IsInstalled folder
    → IsSaid patterns folder found → IsWorkspace from asker folder found
