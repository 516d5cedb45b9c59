-- The range texts by which other packages depend on an installed package: npm's "npm explain".
use Rattle.std.specs.Prelude.{◌≡◌, ◌⊎◌, ℕ, List, [], Bool, false, true, bytes_eq, codes, filter, map}
use Rattle.std.specs.BTreeMap.{get_by}
use Rattle.std.specs.Cmp.Lexicographic.{slice_cmp}
use Rattle.std.specs.List.{AllZip}
use Rattle.std.specs.Option.{option_map_or}
use Rattle.std.specs.Ordering.{nat_cmp}
use Rattle.serde_json.specs.Data.{Data}
use Rattle.npm_packages.specs.Edges.{AreLockEdges, EdgeValue}
use Rattle.npm_packages.specs.declared.dependents.Dependents.{Dependents}
use Rattle.npm_texts.specs.SpecGrammar.{IsSpec, in_registry, location, refused}

-- The text of a dependency: the range or the tag of its spec. For a URL, a repository, a file, a folder and a refused spec
-- it is `no range`, which npm refuses as a range; and so it is if `overrides` change it in a way that is not read here.
pub data IsEdgeText (edge : EdgeValue) : (text : List ℕ) → Type 0 where
  by_spec : (text : List ℕ) → edge.is_overridden ≡ false → IsSpec edge.spec (in_registry text) → IsEdgeText edge text
  elsewhere : edge.is_overridden ≡ false → IsSpec edge.spec location ⊎ IsSpec edge.spec refused
      → IsEdgeText edge (codes "no range")
  overridden : edge.is_overridden ≡ true → IsEdgeText edge (codes "no range")

-- the package in this folder is found for the dependency
abbrev pub leads_to : (folder : List ℕ) → EdgeValue → Bool
leads_to folder edge = option_map_or (λ to. bytes_eq to folder) edge.to false

-- the texts of the dependencies for which the package in a folder is found
abbrev pub AreTextsFor : (folder : List ℕ) → List EdgeValue → (texts : List (List ℕ)) → Type 0
AreTextsFor folder edges texts = AllZip IsEdgeText (filter (leads_to folder) edges) texts

-- this gives for each folder the texts of the dependencies for which its package is found
pub record AreDependents (lock : Data) (at_folder : (folder : List ℕ) → List (List ℕ)) : Type 0 where
  pub edges : List EdgeValue
  pub are : AreLockEdges lock edges
  pub texts : (folder : List ℕ) → AreTextsFor folder edges (at_folder folder)

-- ---- what contracts see

-- the texts that a value has for a folder
abbrev pub texts_at : Dependents → (folder : List ℕ) → List (List ℕ)
texts_at dependents folder = option_map_or (λ list. map (λ text. text.now) list.items)
    (get_by (λ k. slice_cmp nat_cmp folder k.now) dependents.by_folder) []
