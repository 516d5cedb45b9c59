-- Which packages npm installs for the project itself: npm's "package.json", "workspaces", and `shouldOmit` of its trees, by which `--omit`
-- leaves out packages of the root and of its workspaces alone.
use Rattle.std.specs.Prelude.{◌&&◌, ◌||◌, ◌==◌, ℕ, List, [], Bool, codes, false, if◌then◌else◌, is_some, length, nat_eq, nat_lt, not}
use Rattle.std.specs.Prelude.{Option, None, Some}
use Rattle.std.specs.List.{after_first, before_first, ends_with, position_or_len}
use Rattle.std.specs.Option.{option_map_or}
use denote.Ref.{Bor}
use Rattle.serde_json.specs.Data.{Data, Items, item, no_items}
use Rattle.serde_json.specs.Find.{as_str}
use Rattle.npm_texts.specs.SpecGrammar.{is_slash}
use Rattle.npm_texts.specs.Texts.{rest_after, without_end}
use Rattle.npm_lock.specs.Mismatches.{member_at}
use Rattle.npm_lock.specs.Workspaces.{patterns_of}

abbrev pub begins : (text start : List ℕ) → Bool
begins text start = is_some (rest_after start text)

-- ---- a folder, and what is installed below it

-- the folder is this one, or a package in its `node_modules`: `w` and `w/node_modules/a` for `w`
abbrev pub is_at_or_below : (top folder : List ℕ) → Bool
is_at_or_below top folder =
    option_map_or (λ rest. (length rest == 0) || begins rest (codes "/node_modules/")) (rest_after top folder) false

-- a name of a folder that is not hidden
abbrev pub is_name : List ℕ → Bool
is_name name = not (length name == 0) && not (begins name (codes "."))

-- a text before its first `/`, and after it
pub record Parts : Type 0 where
  pub name : List ℕ
  pub below : List ℕ

abbrev pub parts_of : (text : List ℕ) → Option Parts
parts_of text = if nat_lt (position_or_len is_slash text) (length text)
    then Some (record { name = before_first is_slash text; below = after_first is_slash text })
    else None

-- a name, and then nothing or a package in its `node_modules`: `w` and `w/node_modules/a`
abbrev pub is_name_first : List ℕ → Bool
is_name_first text = option_map_or (λ parts. is_name parts.name && begins parts.below (codes "node_modules/"))
    (parts_of text) (is_name text)

abbrev pub is_name_after : (start folder : List ℕ) → Bool
is_name_after start folder = option_map_or is_name_first (rest_after start folder) false

-- a path, which is not in the `node_modules` of the folder there
abbrev pub is_path_after : (start folder : List ℕ) → Bool
is_path_after start folder =
    option_map_or (λ rest. is_name rest && not (begins rest (codes "node_modules/"))) (rest_after start folder) false

-- ---- the patterns of the root

-- A pattern matches the folder that it names, with `*` at its end each folder that goes on with a name there, as `packages/*` and
-- `packages/w-*`, and with `**` each that goes on with a path. What a pattern with another star may match counts as no workspace.
abbrev pub matches : (pattern folder : List ℕ) → Bool
matches pattern folder = if ends_with nat_eq pattern (codes "**")
    then is_path_after (without_end (codes "**") pattern) folder
    else if ends_with nat_eq pattern (codes "*")
    then is_name_after (without_end (codes "*") pattern) folder
    else is_at_or_below pattern folder

abbrev pub without_start : List ℕ → List ℕ
without_start text = option_map_or (λ rest. rest) (rest_after (codes "./") text) text

abbrev pub is_matched : (folder : List ℕ) → (pattern : Data) → Bool
is_matched folder pattern = option_map_or (λ text. matches (without_start text) folder) (as_str pattern) false

abbrev pub matches_one : (folder : List ℕ) → (patterns : Items) → Bool
matches_one folder no_items = false
matches_one folder (item pattern others) = is_matched folder pattern || matches_one folder others

-- a pattern that takes folders away
abbrev pub is_negated : (pattern : Data) → Bool
is_negated pattern = option_map_or (λ text. begins text (codes "!")) (as_str pattern) false

abbrev pub has_negated : (patterns : Items) → Bool
has_negated no_items = false
has_negated (item pattern others) = is_negated pattern || has_negated others

-- ---- the project

-- the folder is a workspace of this root, or a package in the `node_modules` of one; with a pattern that takes folders away that is not known
abbrev pub is_below_workspace : (root : Data) → (folder : List ℕ) → Bool
is_below_workspace root folder =
    option_map_or (λ patterns. not (has_negated patterns) && matches_one folder patterns) (patterns_of root) false

abbrev pub is_in_workspace : (lock : Data) → (folder : List ℕ) → Bool
is_in_workspace lock folder = option_map_or (λ root. is_below_workspace root folder)
    (member_at lock []) false

-- a package of the root or of a workspace, and not of another folder that a link names
abbrev pub is_in_project : (lock : Data) → (folder : List ℕ) → Bool
is_in_project lock folder = begins folder (codes "node_modules/") || is_in_workspace lock folder

-- ---- what contracts see

abbrev pub part_values : Bor (List ℕ) × Bor (List ℕ) → Parts
part_values parts = record { name = parts.0.now; below = parts.1.now }
