-- The packages that dependencies ask for by another name than that of the folder: npm's "package spec", "Aliases".
use Rattle.std.specs.Prelude.{◌≡◌, ℕ, List, [], ◌∷◌, Option, None, if◌then◌else◌, option_map}
use Rattle.std.specs.BTreeMap.{get_by}
use Rattle.std.specs.Cmp.Lexicographic.{slice_cmp}
use Rattle.std.specs.Option.{option_or}
use Rattle.std.specs.Ordering.{nat_cmp}
use Rattle.serde_json.specs.Data.{Data}
use Rattle.npm_packages.specs.Dependents.{leads_to}
use Rattle.npm_packages.specs.Edges.{AreLockEdges, EdgeValue}
use Rattle.npm_packages.specs.declared.aliases.Aliases.{Aliases}
use Rattle.npm_texts.specs.RangeText.{aliased_name}

-- the package that a dependency asks for by an alias, if it leads to this folder: `lodash` for `npm:lodash@^4`
abbrev pub alias_for : (folder : List ℕ) → EdgeValue → Option (List ℕ)
alias_for folder edge = if leads_to folder edge then aliased_name edge.spec else None

-- the package that the first alias for the folder asks for
abbrev pub first_alias : (folder : List ℕ) → List EdgeValue → Option (List ℕ)
first_alias folder [] = None
first_alias folder (edge ∷ edges) = option_or (alias_for folder edge) (first_alias folder edges)

-- this gives for each folder the package that the first alias in the lock file asks for there
pub record AreAliases (lock : Data) (at_folder : (folder : List ℕ) → Option (List ℕ)) : Type 0 where
  pub edges : List EdgeValue
  pub are : AreLockEdges lock edges
  pub first : (folder : List ℕ) → at_folder folder ≡ first_alias folder edges

-- ---- what contracts see

-- the name that a value has for a folder
abbrev pub name_at : Aliases → (folder : List ℕ) → Option (List ℕ)
name_at aliases folder = option_map (λ name. name.now) (get_by (λ k. slice_cmp nat_cmp folder k.now) aliases.by_folder)
