-- What the definitions say of some packages.
use Rattle.std.proofs.Common.{◌≡◌, ◌∷◌, [], List, ℕ, Bool, Option, None, Some, codes, false, map, refl, true}
use Rattle.serde_json.specs.Data.{Data, Members, array, boolean, item, member, no_items, no_members, object, string}
use Rattle.npm_lock.specs.Outcomes.{DependencyValue}
use Rattle.npm_lock_reports.specs.Count.{count_of}
use Rattle.npm_lock_reports.specs.Omissions.{is_left_out, is_omitted}
use Rattle.npm_lock_reports.specs.declared.omissions.Omissions.{Omissions}

abbrev nothing : Omissions
nothing = record { dev = false; optional = false }

abbrev dev_alone : Omissions
dev_alone = record { dev = true; optional = false }

abbrev optional_alone : Omissions
optional_alone = record { dev = false; optional = true }

abbrev both : Omissions
both = record { dev = true; optional = true }

-- a package with this mark
abbrev marked : (mark : List ℕ) → Data
marked mark = object (member mark (boolean true) (member (codes "version") (string (codes "1.0.0")) no_members))

-- ---- packages

abbrev at : (mark : List ℕ) → Omissions → Bool
at mark omissions = is_omitted omissions (object no_members) (codes "node_modules/a") (marked mark)

pub a_package_for_development : map (at (codes "dev")) (nothing ∷ dev_alone ∷ optional_alone ∷ both ∷ [])
    ≡ false ∷ true ∷ false ∷ true ∷ []
a_package_for_development = refl

pub an_optional_package : map (at (codes "optional")) (nothing ∷ dev_alone ∷ optional_alone ∷ both ∷ [])
    ≡ false ∷ false ∷ true ∷ true ∷ []
an_optional_package = refl

-- one that is there for development or as an optional one is left out only if both are
pub of_either_group : map (at (codes "devOptional")) (nothing ∷ dev_alone ∷ optional_alone ∷ both ∷ [])
    ≡ false ∷ false ∷ false ∷ true ∷ []
of_either_group = refl

pub a_peer_stays : map (at (codes "peer")) (dev_alone ∷ both ∷ []) ≡ false ∷ false ∷ []
a_peer_stays = refl

pub the_root_stays : is_omitted both (object no_members) [] (marked (codes "dev")) ≡ false
the_root_stays = refl

-- ---- linked folders

-- a lock file whose root has this pattern of workspaces
abbrev with_pattern : (pattern : List ℕ) → Data
with_pattern pattern = object (member (codes "packages") (object (member []
    (object (member (codes "workspaces") (array (item (string pattern) no_items)) no_members)) no_members)) no_members)

abbrev below : (folder pattern : List ℕ) → Bool
below folder pattern = is_omitted dev_alone (with_pattern pattern) folder (marked (codes "dev"))

-- `npm ci --omit=dev` installs what is below a linked folder that is no workspace
pub below_linked_folders : map (below (codes "lib/x/node_modules/lodash"))
    (codes "lib/*" ∷ codes "./lib/*" ∷ codes "lib/x" ∷ codes "lib/**" ∷ codes "**" ∷ codes "lib/x/**" ∷ codes "lib" ∷ codes "*" ∷ codes "lib/y" ∷ codes "!lib/x" ∷ [])
    ≡ true ∷ true ∷ true ∷ true ∷ true ∷ false ∷ false ∷ false ∷ false ∷ false ∷ []
below_linked_folders = refl

pub a_workspace_itself : map (below (codes "lib/x")) (codes "lib/*" ∷ codes "lib/y" ∷ []) ≡ true ∷ false ∷ []
a_workspace_itself = refl

-- ---- dependencies

-- a lock file with a root, and a package for development in `node_modules/d`
abbrev file : (root : Data) → Data
file root = object (member (codes "packages") (object (member [] root (member (codes "node_modules/d") (marked (codes "dev"))
    (member (codes "node_modules/p") (marked (codes "peer")) no_members)))) no_members)

-- a dependency of the package in a folder, with `dev` and `optional` as its JSON object has them
abbrev asked : (from : List ℕ) → (dev optional : Bool) → DependencyValue
asked from dev optional = record {
  from = from;
  from_version = None;
  name = codes "a";
  spec = codes "^1";
  to = None;
  version = None;
  dev = dev;
  optional = optional;
  peer = false;
}

abbrev plain : Data
plain = object no_members

-- of `devDependencies` of the root
pub a_dependency_for_development : map (λ omissions. is_left_out omissions (file plain) (asked [] true false))
    (nothing ∷ dev_alone ∷ optional_alone ∷ []) ≡ false ∷ true ∷ false ∷ []
a_dependency_for_development = refl

pub an_optional_dependency : map (λ omissions. is_left_out omissions (file plain) (asked (codes "node_modules/p") false true))
    (dev_alone ∷ optional_alone ∷ []) ≡ false ∷ true ∷ []
an_optional_dependency = refl

pub a_dependency_that_stays : is_left_out both (file plain) (asked (codes "node_modules/p") false false) ≡ false
a_dependency_that_stays = refl

pub of_a_package_for_development : is_left_out dev_alone (file plain) (asked (codes "node_modules/d") true false) ≡ true
of_a_package_for_development = refl

-- npm reads no marks of the root, so that of a root says nothing of what the root depends on
pub of_a_root_with_a_mark : is_left_out both (file (marked (codes "dev"))) (asked [] true false) ≡ false
of_a_root_with_a_mark = refl

-- ---- the count

pub none_is_asked : count_of nothing (file plain) ≡ None
none_is_asked = refl

pub one_of_two : count_of dev_alone (file plain) ≡ Some 1
one_of_two = refl

pub none_of_two : count_of optional_alone (file plain) ≡ Some 0
none_of_two = refl
