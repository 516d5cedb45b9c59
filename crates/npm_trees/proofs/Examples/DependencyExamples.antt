-- What the definitions say of single dependencies: where they are looked up, which rules must count, and what versions links have.
use Rattle.std.proofs.Common.{◌≡◌, ◌∷◌, ℕ, List, [], Option, Some, None, codes, false, refl, true}
use denote.Ref.{Bor}
use Rattle.npm_trees.specs.Meeting.{Meets, has_rules, version_of}
use Rattle.npm_trees.specs.Places.{start_of}
use Rattle.npm_trees.specs.declared.tree.Ask.{Ask}
use Rattle.npm_trees.specs.declared.tree.Kind.{Kind}
use Rattle.npm_trees.specs.declared.tree.Kind.TheVariants.{Dev, Needed, Peer}
use Rattle.npm_trees.specs.declared.tree.Place.{Place}
use Rattle.npm_trees.specs.declared.tree.Stands.{Stands}
use Rattle.npm_trees.specs.declared.tree.Stands.TheVariants.{Link, Package}

abbrev at : {X : Type 0} → X → Bor X
at x = record { ref_ptr = (0, 0); now = x }

abbrev place : (name : List ℕ) → (up : Option ℕ) → Stands → (rules : ℕ) → Place
place name up stands rules = record { name = at name; up = up; stands = stands; rules = rules }

abbrev ask : (from : ℕ) → (name : List ℕ) → Kind → (rules : ℕ) → Ask
ask from name kind rules =
    record { from = from; name = at name; kind = kind; spec = at (codes "*"); rules = rules; bundled = false; workspace = None }

-- below the root are `a`, and in its folder `b`, and in that one's a link to `a`
module _ (root : Stands) where
  abbrev a_package : Place
  a_package = place (codes "a") (Some 0) (Package 0 (at (codes "1.2.0"))) 7

  abbrev places : List Place
  places = place (codes "r") None root 0 ∷ a_package ∷ place (codes "b") (Some 1) (Package 1 (at (codes "2.0.0"))) 0
      ∷ place (codes "a") (Some 2) (Link 1) 7 ∷ []

  -- `b` sees what is in its own folder
  pub what_is_needed_is_seen_from_its_folder : start_of places (ask 2 (codes "a") Needed 0) ≡ 2
  what_is_needed_is_seen_from_its_folder = refl

  -- and its peers beside itself
  pub a_peer_is_seen_from_the_folder_above : start_of places (ask 2 (codes "a") Peer 0) ≡ 1
  a_peer_is_seen_from_the_folder_above = refl

  pub a_link_has_the_version_of_its_target : version_of places (Link 1) ≡ Some (codes "1.2.0")
  a_link_has_the_version_of_its_target = refl

  pub its_rules_count : has_rules places (ask 2 (codes "a") Needed 7) a_package ≡ true
  its_rules_count = refl

  pub other_rules_do_not : has_rules places (ask 2 (codes "a") Needed 0) a_package ≡ false
  other_rules_do_not = refl

  pub for_a_peer_any_rules_count : has_rules places (ask 2 (codes "a") Peer 0) a_package ≡ true
  for_a_peer_any_rules_count = refl

  -- a dependency on the workspace in place 1 is met by nothing else
  pub a_workspace_alone : ¬ Meets places (record (ask 0 (codes "a") Dev 0) { workspace = Some 1 }) 2
  a_workspace_alone is = cc is
