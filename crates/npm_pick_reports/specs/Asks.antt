-- The dependencies of manifests and a lock file: npm's "package.json", from "dependencies" to "optionalDependencies".
use Rattle.std.specs.Prelude.{◌≡◌, ℕ, List, [], ◌∷◌, ◌++◌, Bool, false, Option, Some, None, codes, option_and_then}
use Rattle.std.specs.List.{flat_map}
use Rattle.std.specs.Option.{option_map_or}
use Rattle.serde_json.specs.Data.{Data, Members, member, no_members}
use Rattle.serde_json.specs.Find.{as_object, as_str, get}
use Rattle.npm_packages.specs.Edges.{AreLockEdges, EdgeValue}
use Rattle.npm_packages.specs.Folders.{IsInstalled}
use Rattle.npm_pick_reports.specs.declared.mirror.asks.Ask.{Ask}

-- a dependency: its name and its spec, and whether `overrides` of a lock file change it in a way that is not read here
pub record AskValue : Type 0 where
  pub name : List ℕ
  pub spec : List ℕ
  pub is_overridden : Bool

-- ---- manifests

-- a member of a group: a dependency, if its value is a string
abbrev pub spec_asks : (name : List ℕ) → (spec : Data) → List AskValue
spec_asks name spec = option_map_or (λ text. record { name = name; spec = text; is_overridden = false } ∷ [])
    (as_str spec) []

-- all members of a group
abbrev pub asks_among : Members → List AskValue
asks_among no_members = []
asks_among (member name spec others) = spec_asks name spec ++ asks_among others

-- the dependencies in a group, which may be absent
abbrev pub asks_in : (manifest : Data) → (group : List ℕ) → List AskValue
asks_in manifest group = option_map_or asks_among (option_and_then as_object (get group manifest)) []

-- the dependencies of a manifest, in all four groups
abbrev pub manifest_asks : (manifest : Data) → List AskValue
manifest_asks manifest = ((asks_in manifest (codes "dependencies") ++ asks_in manifest (codes "devDependencies"))
    ++ asks_in manifest (codes "optionalDependencies")) ++ asks_in manifest (codes "peerDependencies")

-- ---- a lock file

-- a folder of the project, as that of a workspace, is found: it is in no `node_modules`
abbrev pub IsLinked : (folder : Option (List ℕ)) → Type 0
IsLinked None = ⊥
IsLinked (Some folder) = ¬ IsInstalled folder

-- a dependency of a package, unless a folder of the project is found for it
pub data AreAsksOfEdge (edge : EdgeValue) : List AskValue → Type 0 where
  linked : IsLinked edge.to → AreAsksOfEdge edge []
  asked : ¬ IsLinked edge.to → AreAsksOfEdge edge
      (record { name = edge.name; spec = edge.spec; is_overridden = edge.is_overridden } ∷ [])

-- one dependency after another
abbrev pub AreAsksOfEdges : List EdgeValue → List AskValue → Type 0
AreAsksOfEdges [] asks = asks ≡ []
AreAsksOfEdges (edge ∷ edges) asks = (here : List AskValue) × (later : List AskValue) × AreAsksOfEdge edge here
    × AreAsksOfEdges edges later × (asks ≡ here ++ later)

-- the dependencies of all packages of a lock file
pub record AreAsksOfLock (lock : Data) (asks : List AskValue) : Type 0 where
  pub edges : List EdgeValue
  pub of_lock : AreLockEdges lock edges
  pub are : AreAsksOfEdges edges asks

-- the dependencies of all packages of the lock file, or none if there is no lock file
abbrev pub AreAsksOfLockIfAny : (lock : Option Data) → List AskValue → Type 0
AreAsksOfLockIfAny None asks = asks ≡ []
AreAsksOfLockIfAny (Some lock) asks = AreAsksOfLock lock asks

-- ---- all of them

-- the dependencies of these manifests, and then those of a lock file, if there is one
pub record AreAsks (manifests : List Data) (lock : Option Data) (asks : List AskValue) : Type 0 where
  pub locked : List AskValue
  pub of_lock : AreAsksOfLockIfAny lock locked
  pub whole : asks ≡ flat_map manifest_asks manifests ++ locked

-- what a contract sees of a dependency
abbrev pub ask_value : Ask → AskValue
ask_value ask = record { name = ask.name.now; spec = ask.spec.now; is_overridden = ask.is_overridden }
