-- The last part of a path, with a scope before it: the name that npm gives the package in a folder, where a lock file says none.
use Rattle.std.specs.Prelude.{◌≡◌, ◌≢◌, ◌<◌, ◌⊎◌, ◌==◌, ℕ, List, ◌∷◌, ◌++◌, Bool, true, false, length, slice_index}
use Rattle.std.specs.Path.{slash}
use Rattle.npm_texts.specs.SpecGrammar.{at_sign}

-- the text has no `/`
abbrev pub HasNoSlash : List ℕ → Type 0
HasNoSlash part = (i : ℕ) → i < length part → slice_index part i ≢ slash

-- the part after the last `/`: `b` of `a/b`, and `a` of `a`
pub record IsLast (path last : List ℕ) : Type 0 where
  pub no_slash : HasNoSlash last
  pub whole : (path ≡ last) ⊎ ((front : List ℕ) × (path ≡ front ++ (slash ∷ last)))

-- a scope of names: `@s` of `@s/b`
abbrev pub is_scope : List ℕ → Bool
is_scope part = slice_index part 0 == at_sign

-- the last part, with the scope before it: `b` of `a/b` and of `b`, and `@s/b` of `a/@s/b` and of `@s/b`
pub data IsEnd (path end : List ℕ) : Type 0 where
  alone : HasNoSlash path → end ≡ path → IsEnd path end
  plain : (above part : List ℕ) → path ≡ above ++ (slash ∷ end) → HasNoSlash end → IsLast above part
      → is_scope part ≡ false → IsEnd path end
  scoped : (above part last : List ℕ) → path ≡ above ++ (slash ∷ last) → HasNoSlash last → IsLast above part
      → is_scope part ≡ true → end ≡ part ++ (slash ∷ last) → IsEnd path end

-- a name of one part, or of a scope and a part, as npm's names are
abbrev pub IsPlain : (name : List ℕ) → Type 0
IsPlain name = IsEnd name name
