-- What a package depends on: npm's "package.json", from "dependencies" to "optionalDependencies".
use Rattle.std.specs.Prelude.{ℕ, List, Bool, true, false, not, if◌then◌else◌, Option, None, option_and_then, option_map}
use Rattle.std.specs.Prelude.{◌↔◌, IsSome, codes}
use Rattle.std.specs.Cmp.Lexicographic.{slice_cmp}
use Rattle.std.specs.List.{Contains}
use Rattle.std.specs.List.Sorted.{IsStrictlySortedBy}
use Rattle.std.specs.Option.{option_map_or, option_or}
use Rattle.std.specs.Ordering.{nat_cmp}
use Rattle.serde_json.specs.Data.{Data}
use Rattle.serde_json.specs.Find.{as_str, get}
use Rattle.npm_texts.specs.Truth.{has_true}

-- a package's dependency on a name: its spec, whether it must be found, whether it is a peer, whether it counts in
-- development alone, and whether `overrides` change it in a way that is not read here
pub record AskedValue : Type 0 where
  pub spec : List ℕ
  pub is_needed : Bool
  pub is_peer : Bool
  pub is_dev : Bool
  pub is_overridden : Bool

-- the spec of a name in a group: `^1` for `a` in `{"dependencies": {"a": "^1"}}`
abbrev pub spec_in : (member : Data) → (group name : List ℕ) → Option (List ℕ)
spec_in member group name = option_and_then as_str (option_and_then (get name) (get group member))

-- a peer that may be missing: `{"peerDependenciesMeta": {"a": {"optional": true}}}` says so of `a`
abbrev pub is_optional_peer : (member : Data) → (name : List ℕ) → Bool
is_optional_peer member name = option_map_or (has_true (codes "optional"))
    (option_and_then (get name) (get (codes "peerDependenciesMeta") member)) false

-- a spec that a package accepts too: `^1` for `a` in `{"acceptDependencies": {"a": "^1"}}`
abbrev pub accepted_of : (member : Data) → (name : List ℕ) → Option (List ℕ)
accepted_of member name = spec_in member (codes "acceptDependencies") name

-- the dependency on a name in a group
abbrev pub asked_in : (member : Data) → (group name : List ℕ) → (is_needed is_peer is_dev : Bool) → Option AskedValue
asked_in member group name is_needed is_peer is_dev = option_map
    (λ spec. record { spec = spec; is_needed = is_needed; is_peer = is_peer; is_dev = is_dev; is_overridden = false })
    (spec_in member group name)

-- Of one name the later group counts: `peerDependencies`, `dependencies`, `optionalDependencies` and, for a package in
-- no `node_modules`, `devDependencies`.
abbrev pub asked_of : (member : Data) → (is_installed : Bool) → (name : List ℕ) → Option AskedValue
asked_of member is_installed name =
    option_or (if is_installed then None else asked_in member (codes "devDependencies") name true false true)
    (option_or (asked_in member (codes "optionalDependencies") name false false false)
    (option_or (asked_in member (codes "dependencies") name true false false)
    (asked_in member (codes "peerDependencies") name (not (is_optional_peer member name)) true false)))

-- the names that a package depends on: each once, in the order of their bytes
pub record AreNames (asker : Data) (is_installed : Bool) (names : List (List ℕ)) : Type 0 where
  pub ascending : IsStrictlySortedBy (slice_cmp nat_cmp) names
  pub all : (name : List ℕ) → Contains names name ↔ IsSome (asked_of asker is_installed name)
