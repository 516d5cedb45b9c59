-- Which packages `--omit` leaves out: npm's "npm audit" and "npm ci", "omit", and its "package-lock.json", "packages".
use Rattle.std.specs.Prelude.{◌&&◌, ◌||◌, ℕ, List, [], ◌∷◌, Bool, false, not, codes}
use Rattle.std.specs.Option.{option_map_or}
use Rattle.serde_json.specs.Data.{Data}
use Rattle.npm_texts.specs.Truth.{has_true}
use Rattle.npm_lock.specs.Mismatches.{entry_of, member_at}
use Rattle.npm_lock.specs.Outcomes.{DependencyValue}
use Rattle.npm_lock_reports.specs.Projects.{is_in_project}
use Rattle.npm_lock_reports.specs.declared.omissions.Omissions.{Omissions}

-- ---- packages

-- The marks of a package by which npm leaves it out: `"dev": true`, since it is only there for development, `"optional": true`,
-- since it is only there as an optional one, or `"devOptional": true`, since it is only there as one or the other.
abbrev pub is_marked_out : Omissions → (member : Data) → Bool
is_marked_out omissions member = (omissions.dev && has_true (codes "dev") member)
    || ((omissions.optional && has_true (codes "optional") member)
    || ((omissions.dev && omissions.optional) && has_true (codes "devOptional") member))

-- The package in a folder is left out. The root never is, and neither is what npm installs for a linked folder that is no workspace.
abbrev pub is_omitted : Omissions → (lock : Data) → (folder : List ℕ) → (member : Data) → Bool
is_omitted omissions lock [] member = false
is_omitted omissions lock (byte ∷ folder) member =
    is_marked_out omissions member && is_in_project lock (byte ∷ folder)

abbrev pub is_omitted_at : Omissions → (lock : Data) → (folder : List ℕ) → Bool
is_omitted_at omissions lock folder = option_map_or (is_omitted omissions lock folder) (member_at lock folder) false

-- ---- dependencies

-- The dependency is so, as `"dev": true` of its JSON object says. A dependency of the root is not if the lock file marks the root
-- so, since npm reads no marks of the root.
abbrev pub is_so : (mark : List ℕ) → (lock : Data) → (from : List ℕ) → (is_marked : Bool) → Bool
is_so mark lock [] is_marked = is_marked && not (has_true mark (entry_of lock []))
is_so mark lock (byte ∷ from) is_marked = is_marked

-- The dependency is left out: the package that asks is, or the dependency itself is one of `devDependencies`, or one that need not be
-- installed, as "npm ls --omit" passes over such a dependency.
abbrev pub is_left_out : Omissions → (lock : Data) → DependencyValue → Bool
is_left_out omissions lock dependency = is_omitted_at omissions lock dependency.from
    || ((omissions.dev && is_so (codes "dev") lock dependency.from dependency.dev)
    || (omissions.optional && is_so (codes "optional") lock dependency.from dependency.optional))
