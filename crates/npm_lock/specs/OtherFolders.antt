-- Keys of `packages` that npm reads as another folder. It joins a key to the path of the project, by `resolve` of Node's `path`, so that
-- `../F/node_modules/a` is `node_modules/a` of a project in the folder `F`: npm's "package-lock.json", "packages".
use Rattle.std.specs.Prelude.{◌≡◌, ◌⊎◌, ◌||◌, ◌==◌, ℕ, List, Bool, true, false, Option, Some, None, bytes_eq, codes, is_some, length}
use Rattle.std.specs.Bool.{MatchBool}
use Rattle.std.specs.Option.{option_map_or}
use Rattle.std.specs.Path.{rsplit_once, slash}
use Rattle.serde_json.specs.Data.{Data, Members, member, no_members, object}
use Rattle.serde_json.specs.Find.{get}
use Rattle.npm_texts.specs.Texts.{rest_after, without_end}

-- ---- one path

-- the path is the name, or goes on below it: `F` and `F/x` for `F`
abbrev pub is_at_or_below : (name path : List ℕ) → Bool
is_at_or_below name path =
    option_map_or (λ rest. (length rest == 0) || is_some (rest_after (codes "/") rest)) (rest_after name path) false

-- the path leads up: `..` and `../x`
abbrev pub leads_up : (path : List ℕ) → Bool
leads_up path = bytes_eq path (codes "..") || is_some (rest_after (codes "../") path)

-- From this folder npm reads the path as another one. `../F/x` leads back into the folder `/p/F`, so there it is `x`. `../../p/x` does
-- so one step later, since `../p/x` leads back into `/p`. No folder is above the topmost one, from where each path that leads up is
-- another.
pub data IsReadAsAnother : (folder path : List ℕ) → Type 0 where
  back : (folder path above name rest : List ℕ) → rsplit_once slash folder ≡ Some (above, name)
      → rest_after (codes "../") path ≡ Some rest → is_at_or_below name rest ≡ true → IsReadAsAnother folder path
  higher : (folder path above name rest : List ℕ) → rsplit_once slash folder ≡ Some (above, name)
      → rest_after (codes "../") path ≡ Some rest → IsReadAsAnother above rest → IsReadAsAnother folder path
  top : (folder path : List ℕ) → rsplit_once slash folder ≡ None → leads_up path ≡ true → IsReadAsAnother folder path

-- ---- a lock file

-- the first of these keys that npm reads as another
abbrev pub IsFirstAnother : (folder : List ℕ) → Members → (found : Option (List ℕ)) → Type 0
IsFirstAnother folder no_members found = found ≡ None
IsFirstAnother folder (member key entry others) found = (IsReadAsAnother folder key × (found ≡ Some key))
    ⊎ ((¬ IsReadAsAnother folder key) × IsFirstAnother folder others found)

-- The first key of a lock file that npm reads as another, in a project with this absolute path. Nothing is known if the path is empty.
pub record IsFirstAnotherOf (lock : Data) (project : List ℕ) (found : Option (List ℕ)) : Type 0 where
  pub members : Members
  pub packages : get (codes "packages") lock ≡ Some (object members)
  pub first : MatchBool (length project == 0) (found ≡ None)
      (IsFirstAnother (without_end (codes "/") project) members found)
