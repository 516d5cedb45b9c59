-- What the definitions say of some lock files: folders, links, and what a package depends on.
use Rattle.std.proofs.Common.{◌≡◌, ◌≢◌, ◌<◌, ◌==◌, ◌&&◌, ℕ, zero, suc, List, [], ◌∷◌, Bool, true, false, not, length}
use Rattle.std.proofs.Common.{Some, None, arith, codes, get_or, inl, refl}
use Rattle.std.specs.Float.Ieee.{eq, of_int}
use Rattle.std.specs.List.{list_all}
use Rattle.serde_json.specs.Data.{Data, Members, boolean, member, no_members, null, number, object, string, unsigned}
use Rattle.npm_packages.specs.Asked.{asked_of, is_optional_peer}
use Rattle.npm_packages.specs.Folders.{IsAbove, is_modules, place_in}
use Rattle.npm_packages.specs.Packages.{linked_folder, package_at}

-- ---- folders

pub a_scope_in_the_root : place_in (codes "") (codes "@s/a") ≡ codes "node_modules/@s/a"
a_scope_in_the_root = refl

pub nested : place_in (codes "node_modules/a") (codes "b") ≡ codes "node_modules/a/node_modules/b"
nested = refl

pub what_holds_packages_is_none : is_modules (codes "node_modules/a/node_modules") ≡ true
what_holds_packages_is_none = refl

-- ---- links

abbrev pub workspace : Data
workspace = object (member (codes "version") (string (codes "1.0.0")) no_members)

abbrev pub packages : Data
packages = object (member (codes "node_modules/w")
    (object (member (codes "link") (boolean true) (member (codes "resolved") (string (codes "w")) no_members)))
    (member (codes "w") workspace no_members))

pub a_link_is_its_target : package_at packages (codes "node_modules/w")
    ≡ Some (record { folder = codes "w"; member = workspace })
a_link_is_its_target = refl

pub a_package_is_itself : package_at packages (codes "w") ≡ Some (record { folder = codes "w"; member = workspace })
a_package_is_itself = refl

-- ---- what a package depends on

abbrev pub specs : Members
specs = member (codes "a") (string (codes "^1")) no_members

-- a development dependency counts for a workspace, and not for an installed package
abbrev pub with_development : Data
with_development = object (member (codes "devDependencies") (object specs) no_members)

pub of_a_workspace : asked_of with_development false (codes "a")
    ≡ Some (record { spec = codes "^1"; is_needed = true; is_peer = false; is_dev = true; is_overridden = false })
of_a_workspace = refl

pub of_an_installed_package : asked_of with_development true (codes "a") ≡ None
of_an_installed_package = refl

-- a peer that may be missing
abbrev pub with_peer : Data
with_peer = object (member (codes "peerDependencies") (object specs)
    (member (codes "peerDependenciesMeta")
    (object (member (codes "a") (object (member (codes "optional") (boolean true) no_members)) no_members)) no_members))

pub an_optional_peer : asked_of with_peer true (codes "a")
    ≡ Some (record { spec = codes "^1"; is_needed = false; is_peer = true; is_dev = false; is_overridden = false })
an_optional_peer = refl

-- ---- folders outside the root

both_true : (x y : Bool) → (x && y) ≡ true → y ≡ true
both_true true y is = is
both_true false y is = cc is

pub no_slash : (text : List ℕ) → list_all (λ b. not (b == 47)) text ≡ true → (i : ℕ) → i < length text
    → get_or text i 0 ≢ 47
no_slash [] none i small is = absurd (omega (arith, small))
no_slash (b ∷ text) none zero small is = let never = rw is at none in cc never
no_slash (b ∷ text) none (suc i) small is = no_slash text (both_true (not (b == 47)) _ none) i (omega (arith, small)) is

pub the_root_is_above_no_such_folder : ¬ IsAbove (codes "..") (codes "")
the_root_is_above_no_such_folder above = cc above.inside

pub up_is_above_a_neighbour : IsAbove (codes "../x") (codes "..")
up_is_above_a_neighbour = record {
  inside = refl;
  name = codes "x";
  one_part = no_slash (codes "x") refl;
  whole = inl refl;
}

-- ---- links

pub a_dot_changes_no_folder : linked_folder (codes "./w") ≡ codes "w"
a_dot_changes_no_folder = refl

-- ---- what counts as true

-- the mark of a peer that is called optional so
abbrev marked : Data → Data
marked mark = object (member (codes "peerDependenciesMeta")
    (object (member (codes "a") (object (member (codes "optional") mark no_members)) no_members)) no_members)

pub a_text_is_true : is_optional_peer (marked (string (codes "true"))) (codes "a") ≡ true
a_text_is_true = refl

pub the_empty_text_is_not : is_optional_peer (marked (string (codes ""))) (codes "a") ≡ false
the_empty_text_is_not = refl

pub null_is_not : is_optional_peer (marked null) (codes "a") ≡ false
null_is_not = refl

pub one_is_true : is_optional_peer (marked (number (unsigned 1))) (codes "a") ≡ true
unfolding eq of_int
one_is_true = refl

pub zero_is_not : is_optional_peer (marked (number (unsigned 0))) (codes "a") ≡ false
unfolding eq of_int
zero_is_not = refl
