-- Packages that ask a registry, and folders of packages that are from elsewhere.
use Rattle.std.proofs.Common.{◌⊎◌, ◌↔◌, ℕ, ◌+◌, ◌<◌, List, drop, get_or, length, map}
use Rattle.std.proofs.lemmas.List.{drop_more}
use Rattle.serde_json.specs.Data.{Data, Members, member, no_members}
use Rattle.npm_packages.specs.Edges.{edge_value}
use Rattle.npm_packages.specs.declared.edges.Edge.{Edge}
use Rattle.npm_texts.specs.RegistrySpec.{RegistrySpecValue}
use Rattle.npm_pick_reports.specs.Installed.{AreAskedBy, AsksRegistry, IsAskedBy, IsFoundElsewhere, IsFromElsewhere, asked, other, unversioned}

-- the dependencies that are left begin with this one
pub left_at : (edges : List Edge) (i : ℕ) (none : Edge) (folder : List ℕ) → i < length edges
    → IsFromElsewhere (map edge_value (drop i edges)) folder
    ↔ (IsFoundElsewhere (edge_value (get_or edges i none)) folder ⊎ IsFromElsewhere (map edge_value (drop (i + 1) edges)) folder)
left_at edges i none folder small = rw (drop_more edges i none small) ((λ there. there), (λ there. there))

-- a package asks a registry by one set of folders as by another that has the same
asks_too : {P Q : List ℕ → Type 0} (folder : List ℕ) (entry : Data) → P folder ↔ Q folder
    → AsksRegistry P folder entry → AsksRegistry Q folder entry
asks_too folder entry same asks = record {
  installed = asks.installed;
  no_link = asks.no_link;
  from_web = asks.from_web;
  from_registry = λ is. asks.from_registry (same.1 is);
}

back : {A B : Type 0} → A ↔ B → B ↔ A
back same = (same.1, same.0)

asked_too : {P Q : List ℕ → Type 0} (folder : List ℕ) (entry : Data) (found : List RegistrySpecValue)
    → P folder ↔ Q folder → IsAskedBy P folder entry found → IsAskedBy Q folder entry found
asked_too folder entry found same (asked name version asks named has) =
    asked name version (asks_too folder entry same asks) named has
asked_too folder entry found same (other never) = other (λ asks. never (asks_too folder entry (back same) asks))
asked_too folder entry found same (unversioned none) = unversioned none

pub all_asked_too : {P Q : List ℕ → Type 0} (members : Members) (found : List RegistrySpecValue)
    → ((folder : List ℕ) → P folder ↔ Q folder) → AreAskedBy P members found → AreAskedBy Q members found
all_asked_too no_members found same are = are
all_asked_too (member folder entry others) found same are = (
  are.0,
  are.1,
  asked_too folder entry are.0 (same folder) are.2,
  all_asked_too others are.1 same are.3,
  are.4,
)
