-- What a manifest asks for, as `overrides` change it: npm's "package.json", from "dependencies" to "overrides".
use Rattle.std.specs.Prelude.{◌≡◌, ◌&&◌, ℕ, List, [], ◌∷◌, Bool, true, false, not, if◌then◌else◌, Option, Some, None, bytes_eq}
use Rattle.std.specs.List.{AllZip}
use Rattle.std.specs.Option.{option_map_or}
use Rattle.serde_json.specs.Data.{Data}
use Rattle.npm_packages.specs.Asked.{AreNames, AskedValue, asked_of}
use Rattle.npm_overrides.specs.Bundled.{is_bundled}
use Rattle.npm_overrides.specs.Choice.{Counts, rules_by, spec_by}
use Rattle.npm_overrides.specs.Rules.{RuleValue, spec_of_root}
use Rattle.npm_overrides.specs.declared.asks.Ask.{Ask}
use Rattle.npm_overrides.specs.declared.kind.Kind.{Kind}
use Rattle.npm_overrides.specs.declared.kind.Kind.TheVariants.{Dev, Needed, Optional, OptionalPeer, Peer}
use Rattle.npm_overrides.specs.declared.kind.Owner.{Owner}
use Rattle.npm_overrides.specs.declared.kind.Owner.TheVariants.{Package, Root, Workspace}

-- what is asked for by one name: its kind, its spec, the place of the rules that count below the package that meets it, and whether it
-- is in the archive of the package that asks
pub record AskValue : Type 0 where
  pub name : List ℕ
  pub kind : Kind
  pub spec : List ℕ
  pub rules : ℕ
  pub bundled : Bool

-- ---- whose manifest it is

-- a root or a workspace: its `devDependencies` count, and its peers are as its other dependencies
abbrev pub is_top : Owner → Bool
is_top Root = true
is_top Workspace = true
is_top Package = false

-- the group of a dependency
abbrev pub kind_by : (is_dev is_peer is_needed : Bool) → Kind
kind_by true is_peer is_needed = Dev
kind_by false true true = Peer
kind_by false true false = OptionalPeer
kind_by false false true = Needed
kind_by false false false = Optional

-- ---- what a rule changes

-- the rule that counts: none changes what a workspace asks for itself
abbrev pub IsRuleFor : Owner → (rules : List RuleValue) → (counts : ℕ) → (name spec : List ℕ) → Option ℕ → Type 0
IsRuleFor Root rules counts name spec rule = Counts rules name spec counts rule
IsRuleFor Workspace rules counts name spec rule = rule ≡ None
IsRuleFor Package rules counts name spec rule = Counts rules name spec counts rule

-- ---- a manifest

-- What is asked for by a name on which the manifest depends. Rules count "at any depth" below a package, but not through its peers:
-- below a package that meets a peer those count that count for the one which asks for the package.
abbrev pub ask_of : (manifest : Data) → Owner → (rules : List RuleValue) → (counts peers_count : ℕ) → (name : List ℕ) → AskedValue
    → (rule : Option ℕ) → AskValue
ask_of manifest owner rules counts peers_count name asked rule = record {
  name = name;
  kind = kind_by asked.is_dev asked.is_peer asked.is_needed;
  spec = spec_by rules rule asked.spec;
  rules = if asked.is_peer && not (is_top owner) then peers_count else rules_by rules rule counts;
  bundled = not (is_top owner) && is_bundled manifest name;
}

pub data IsAsk (manifest : Data) (owner : Owner) (rules : List RuleValue) (counts peers_count : ℕ) (name : List ℕ)
    : AskValue → Type 0 where
  by_rule : (asked : AskedValue) (rule : Option ℕ) → asked_of manifest (not (is_top owner)) name ≡ Some asked
      → IsRuleFor owner rules counts name asked.spec rule
      → IsAsk manifest owner rules counts peers_count name (ask_of manifest owner rules counts peers_count name asked rule)

-- what a manifest asks for: one ask for each name on which it depends, in the order of the names' bytes
pub record AreAsks (manifest : Data) (owner : Owner) (rules : List RuleValue) (counts peers_count : ℕ) (asks : List AskValue)
    : Type 0 where
  pub names : List (List ℕ)
  pub are_names : AreNames manifest (not (is_top owner)) names
  pub each : AllZip (IsAsk manifest owner rules counts peers_count) names asks

-- ---- a root

-- "You may not set an override for a package that you directly depend on unless both the dependency and the override itself share the
-- exact same spec": the first name whose spec is not the one that the root's manifest writes
abbrev pub first_changed : (manifest : Data) → List AskValue → Option (List ℕ)
first_changed manifest [] = None
first_changed manifest (ask ∷ asks) = if option_map_or (bytes_eq ask.spec) (spec_of_root manifest ask.name) false
    then first_changed manifest asks else Some ask.name

-- what a contract sees of an ask
abbrev pub ask_value : Ask → AskValue
ask_value ask = record {
  name = ask.name.now;
  kind = ask.kind;
  spec = ask.spec.now;
  rules = ask.rules;
  bundled = ask.bundled;
}
