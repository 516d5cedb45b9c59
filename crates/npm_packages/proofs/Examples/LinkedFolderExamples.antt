-- What the definitions say of links and the folders that they lead to.
use Rattle.std.proofs.Common.{◌≡◌, ◌∙◌, ◌∷◌, ◌++◌, ℕ, List, [], Bool, Option, Some, ap, arith}
use Rattle.std.proofs.Common.{codes, false, inl, inr, option_map, refl, true}
use Rattle.std.specs.List.Sorted.{IsStrictlySortedBy}
use Rattle.serde_json.specs.Data.{Data, boolean, member, no_members, object, string}
use Rattle.npm_packages.specs.LinkedFolders.{AreLinkedFolders, IsLinkTo, IsLinkedIn}
use Rattle.npm_packages.specs.Packages.{is_link}

-- a link, and a lock file with one link and one package
abbrev link_to : (resolved : List ℕ) → Data
link_to resolved = object (member (codes "link") (boolean true) (member (codes "resolved") (string resolved) no_members))

abbrev packages_of : (resolved folder : List ℕ) → Data
packages_of resolved folder = object (member (codes "node_modules/a") (link_to resolved)
    (member folder (object no_members) no_members))

abbrev lock_of : (resolved folder : List ℕ) → Data
lock_of resolved folder = object (member (codes "packages") (packages_of resolved folder) no_members)

-- ---- which folders

no_modules : (a b : List ℕ) → codes "w" ≡ a ++ (codes "/node_modules/" ++ b) → ⊥
no_modules [] b is = cc is
no_modules (x ∷ []) b is = cc is
no_modules (x ∷ y ∷ a) b is = cc is

-- a folder beside the root
pub a_workspace : IsLinkTo (packages_of (codes "w") (codes "w")) (link_to (codes "w")) (codes "w")
a_workspace = record {
  is_such = refl;
  target = object no_members;
  named = refl;
  no_link = refl;
  below = λ same. cc same;
  outside = λ inside. elim inside [
    | inl first ↦ cc first
    | inr later ↦ no_modules later.0 later.1 later.2
  ];
}

pub with_a_dot : IsLinkTo (packages_of (codes "./w") (codes "w")) (link_to (codes "./w")) (codes "w")
with_a_dot = record {
  is_such = refl;
  target = object no_members;
  named = refl;
  no_link = refl;
  below = λ same. cc same;
  outside = a_workspace.outside;
}

-- the root has its own manifest
pub the_root_is_left_out : ¬ IsLinkTo (packages_of [] []) (link_to []) []
the_root_is_left_out leads = leads.below refl

pub what_is_installed_is_left_out : ¬ IsLinkTo (packages_of (codes "node_modules/b") (codes "node_modules/b"))
    (link_to (codes "node_modules/b")) (codes "node_modules/b")
what_is_installed_is_left_out leads = leads.outside (inl refl)

pub a_link_to_nothing : ¬ IsLinkTo (packages_of (codes "v") (codes "w")) (link_to (codes "v")) (codes "v")
a_link_to_nothing leads = cc leads.named

pub a_package_is_no_link : ¬ IsLinkTo (packages_of (codes "w") (codes "w")) (object no_members) (codes "w")
a_package_is_no_link leads = cc leads.is_such

-- a link to a link leads to no package
abbrev two_links : Data
two_links = object (member (codes "node_modules/a") (link_to (codes "w"))
    (member (codes "w") (link_to (codes "v")) no_members))

apart : ◌≡◌ {A = Option Bool} (Some true) (Some false) → ⊥
apart is = cc is

pub a_link_to_a_link : ¬ IsLinkTo two_links (link_to (codes "w")) (codes "w")
a_link_to_a_link leads =
    apart (ap (option_map (λ found. is_link found.member)) leads.named ∙ ap Some leads.no_link)

-- ---- the list of them

there : IsLinkedIn (lock_of (codes "w") (codes "w")) (codes "w")
there = record {
  packages = packages_of (codes "w") (codes "w");
  there = refl;
  linked = record { place = codes "node_modules/a"; link = link_to (codes "w"); there = refl; leads = a_workspace };
}

pub no_folder_is_left_out : ¬ AreLinkedFolders (lock_of (codes "w") (codes "w")) []
no_folder_is_left_out folders = absurd (omega (arith, ((folders.all (codes "w")).1 there).1))

pub no_folder_is_there_twice : ¬ AreLinkedFolders (lock_of (codes "w") (codes "w")) (codes "w" ∷ codes "w" ∷ [])
unfolding IsStrictlySortedBy
no_folder_is_there_twice folders = cc folders.ascending.0.0

pub a_file_without_packages : ¬ IsLinkedIn (object no_members) (codes "w")
a_file_without_packages linked = cc linked.there
