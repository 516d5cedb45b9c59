-- Which patterns of workspaces are read here, and which paths they match: npm's "package.json", "workspaces", and
-- `minimatch`, with which npm's `map-workspaces` matches them.
--
--     pattern = path | path "/" star | star
--     star    = "*" | "**"
--
-- `*` matches one part of a path, and `**` matches any number of parts, or none. Neither matches a part that begins with a
-- dot. Any other part matches itself. A pattern with a star elsewhere, as `w-*`, or with a byte that has another meaning in
-- patterns, as `!w` and `{v,w}`, is not read.
use Rattle.std.specs.Prelude.{◌≡◌, ◌≢◌, ◌==◌, ◌||◌, ℕ, Bool, false, List, [], ◌∷◌, bytes_eq, codes, length}
use Rattle.std.specs.List.{AllByRecursion, list_any}
use Rattle.std.specs.Path.{dot}
use Rattle.npm_packages.specs.Folders.{below_up}
pub use Rattle.npm_packages.specs.Folders.{parts_of}

-- a byte that means something else in a pattern than in a path
abbrev pub is_glob_byte : ℕ → Bool
is_glob_byte b = list_any (λ c. b == c) (codes "!#*?[]{}()\\")

abbrev pub IsPlain : (part : List ℕ) → Type 0
IsPlain part = list_any is_glob_byte part ≡ false

-- A pattern that is read: its last part is `*`, `**`, or plain and not empty, and each part before it is plain. So `w`,
-- `packages/*` and `packages/**` are read, and `w/`, `w-*` and `*/w` are not.
pub data IsRead : (pattern : List (List ℕ)) → Type 0 where
  plain_part : (part : List ℕ) → part ≢ [] → IsPlain part → IsRead (part ∷ [])
  one_star : IsRead (codes "*" ∷ [])
  two_stars : IsRead (codes "**" ∷ [])
  below : (part next : List ℕ) (pattern : List (List ℕ)) → IsPlain part → IsRead (next ∷ pattern)
      → IsRead (part ∷ next ∷ pattern)

-- a part that npm leaves out of a path, with the one before it if it is `..`
abbrev pub is_left_out : (part : List ℕ) → Bool
is_left_out part = (length part == 0) || bytes_eq part (codes "..")

-- The pattern has an empty part, or `..` after another part, so it may match other paths than it says.
abbrev pub turns : (pattern : List (List ℕ)) → Bool
turns pattern = list_any is_left_out (below_up pattern)

-- A pattern that matches the paths that it says. `a/../w`, which is `w` to npm, is not one.
pub record IsLiteral (pattern : List (List ℕ)) : Type 0 where
  pub read : IsRead pattern
  pub straight : turns pattern ≡ false

-- a part that does not begin with a dot
abbrev pub IsShown : (part : List ℕ) → Type 0
IsShown [] = Unit {0}
IsShown (b ∷ part) = b ≢ dot

-- The path matches the pattern, whose last part may be a star: `packages/a` matches `packages/*`, and `packages/a/b` and
-- `packages` match `packages/**`. With nothing after its `/`, `packages/` matches neither.
pub data Matches : (pattern path : List (List ℕ)) → Type 0 where
  end : Matches [] []
  itself : (part : List ℕ) (pattern path : List (List ℕ)) → Matches pattern path → Matches (part ∷ pattern) (part ∷ path)
  by_star : (part : List ℕ) → part ≢ [] → IsShown part → Matches (codes "*" ∷ []) (part ∷ [])
  by_stars : (path : List (List ℕ)) → path ≢ [] ∷ [] → AllByRecursion IsShown path → Matches (codes "**" ∷ []) path
