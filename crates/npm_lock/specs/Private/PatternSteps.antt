-- The grammar of patterns as functions of texts, step by step, and what a list of patterns says of a folder.
use Rattle.std.specs.Prelude.{◌==◌, ◌||◌, ◌&&◌, ℕ, List, [], ◌∷◌, Bool, false, true, not, if◌then◌else◌}
use Rattle.std.specs.Prelude.{Option, Some, None, bytes_eq, codes, length, nat_eq}
use Rattle.std.specs.List.{ends_with, list_any}
use Rattle.std.specs.Option.{option_map_or}
use Rattle.serde_json.specs.Data.{Data, Items, item, no_items}
use Rattle.serde_json.specs.Find.{as_str}
use Rattle.npm_texts.specs.Texts.{rest_after, without_end}
use Rattle.npm_lock.specs.PatternGrammar.{is_glob_byte, is_left_out, parts_of, turns}
use Rattle.npm_packages.specs.Folders.{below_up}
use Rattle.npm_lock.specs.Workspaces.{pattern_of, patterns_of, texts_of}
use Rattle.npm_lock.specs.declared.workspace.Workspace.{Workspace}
use Rattle.npm_lock.specs.declared.workspace.Workspace.TheVariants.{Is, IsNot, Unread}

-- ---- one pattern

-- the pattern without `*` or `**` at its end: `packages/` of `packages/*`
abbrev pub stem_of : (pattern : List ℕ) → List ℕ
stem_of pattern = without_end (codes "*") (without_end (codes "*") pattern)

abbrev pub has_glob_byte : (stem : List ℕ) → Bool
has_glob_byte stem = list_any is_glob_byte stem

-- the star matches folders in this one: the root, or a folder with `/` at its end
abbrev pub is_whole : (stem : List ℕ) → Bool
is_whole stem = (length stem == 0) || ends_with nat_eq stem (codes "/")

-- A pattern that is read: `w`, `packages/*` and `packages/**`. `!w`, `w-*`, `{v,w}` and `w/` are not read.
abbrev pub is_read : (pattern : List ℕ) → Bool
is_read pattern = not (has_glob_byte (stem_of pattern))
    && (if ends_with nat_eq pattern (codes "*") then is_whole (stem_of pattern) else not (is_whole (stem_of pattern)))

-- the pattern is read, and matches the paths that it says
abbrev pub is_literal : (pattern : List ℕ) → Bool
is_literal pattern = is_read pattern && not (turns (parts_of pattern))

-- Parts of a pattern, of which each `..` at the start leads up if `may_lead_up`: one is empty, or another `..`.
abbrev pub are_turned : (may_lead_up : Bool) → (parts : List (List ℕ)) → Bool
are_turned may_lead_up parts = list_any is_left_out (if may_lead_up then below_up parts else parts)

-- A part begins with a dot: `.git` in `a/.git`. `is_start` says that a part begins at the first byte.
abbrev pub has_dot_part : (is_start : Bool) → (path : List ℕ) → Bool
has_dot_part is_start [] = false
has_dot_part is_start (b ∷ path) = (is_start && (b == 46)) || has_dot_part (b == 47) path

-- a text that `**` matches: some parts of a folder, of which none begins with a dot
abbrev pub are_parts : (rest : List ℕ) → Bool
are_parts rest = not (length rest == 0) && not (has_dot_part true rest)

abbrev pub has_slash : (rest : List ℕ) → Bool
has_slash rest = list_any (λ b. b == 47) rest

-- a text that `*` matches: one such part
abbrev pub is_part : (rest : List ℕ) → Bool
is_part rest = are_parts rest && not (has_slash rest)

-- the folder in which the stars match: `packages` of `packages/*`
abbrev pub is_base : (folder stem : List ℕ) → Bool
is_base folder stem = not (length stem == 0) && bytes_eq folder (without_end (codes "/") stem)

-- The pattern is that of this folder: `packages/*` of `packages/a`, and `packages/**` of `packages/a/b` and of
-- `packages`.
abbrev pub is_matched : (folder pattern : List ℕ) → Bool
is_matched folder pattern = if ends_with nat_eq pattern (codes "**")
    then is_base folder (stem_of pattern) || option_map_or are_parts (rest_after (stem_of pattern) folder) false
    else (if ends_with nat_eq pattern (codes "*")
    then option_map_or is_part (rest_after (stem_of pattern) folder) false
    else bytes_eq pattern folder)

-- ---- all patterns

-- a value that is a text, whose pattern is such
abbrev pub is_such : (such : List ℕ → Bool) → Data → Bool
is_such such value = option_map_or (λ text. such (pattern_of text)) (as_str value) false

-- one of them is such
abbrev pub any_item : (such : Data → Bool) → Items → Bool
any_item such no_items = false
any_item such (item pattern others) = such pattern || any_item such others

abbrev pub has_unread : Items → Bool
has_unread patterns = any_item (λ pattern. not (is_such is_read pattern)) patterns

abbrev pub has_matched : (folder : List ℕ) → Items → Bool
has_matched folder patterns = any_item (is_such (is_matched folder)) patterns

-- the patterns of the root, if each of them is read; a root that has none has no workspaces
abbrev pub read_patterns : (root : Data) → Option (List (List ℕ))
read_patterns root = option_map_or (λ patterns. if has_unread patterns then None else Some (texts_of patterns))
    (patterns_of root) (Some [])

-- one of them is not read, or matches other paths than it says
abbrev pub has_unknown : Items → Bool
has_unknown patterns = any_item (λ pattern. not (is_such is_literal pattern)) patterns

-- whether the folder is a workspace, by these patterns, if that is known
abbrev pub by_patterns : (folder : List ℕ) → Items → Workspace
by_patterns folder patterns = if has_unknown patterns then Unread
    else (if has_matched folder patterns then Is else IsNot)
