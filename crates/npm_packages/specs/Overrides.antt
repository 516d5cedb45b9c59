-- Which dependencies the `overrides` of the root change: npm's "package.json", "overrides".
use Rattle.std.specs.Prelude.{◌==◌, ◌||◌, ◌&&◌, not, ℕ, List, [], ◌∷◌, Bool, true, false, if◌then◌else◌, Option, Some}
use Rattle.std.specs.Prelude.{None, bytes_eq, codes, length, nat_eq, option_and_then}
use Rattle.std.specs.List.{starts_with}
use Rattle.std.specs.Option.{option_map_or}
use Rattle.serde_json.specs.Data.{Data, Members, member, no_members, object}
use Rattle.serde_json.specs.Find.{as_object, as_str, get}
use Rattle.npm_packages.specs.Asked.{AskedValue}
use Rattle.npm_texts.specs.SpecGrammar.{is_at_sign}

-- what `overrides` say of a name: the spec that counts in place of others, or that it is not read here
pub data RuleValue : Type 0 where
  in_place : (spec : List ℕ) → RuleValue
  unread : RuleValue

-- ---- one member of `overrides`

-- the text before its first `@`, or the whole of it if it has none
abbrev pub before_at_sign : List ℕ → List ℕ
before_at_sign [] = []
before_at_sign (b ∷ text) = if is_at_sign b then [] else b ∷ before_at_sign text

-- the name that a key is for, up to an `@` that is not its first byte: `a` of `a` and of `a@^1`, `@s/a` of `@s/a@1`
abbrev pub name_of : (key : List ℕ) → List ℕ
name_of [] = []
name_of (b ∷ key) = b ∷ before_at_sign key

-- a spec for all versions of a name, as in `{"a": "1.0.0"}`: the key has no range, and the spec is not that of another
-- name, as `$b` is
abbrev pub is_plain_rule : (key spec : List ℕ) → Bool
is_plain_rule key spec = bytes_eq (name_of key) key && not (starts_with nat_eq spec (codes "$"))

-- the rule of a member of `overrides` itself
abbrev pub rule_of : (key : List ℕ) → (value : Data) → RuleValue
rule_of key value = option_map_or (λ spec. if is_plain_rule key spec then in_place spec else unread) (as_str value) unread

-- A rule for this name is inside the object, at any depth: for `b` in `{"b": "1"}` and in `{"a": {"b@2": "3"}}`.
abbrev mutual
  pub is_named_in : (name : List ℕ) → Data → Bool
  is_named_in name (object members) = is_named_among name members
  is_named_in name _ = false

  pub is_named_among : (name : List ℕ) → Members → Bool
  is_named_among name no_members = false
  is_named_among name (member key value others) =
      bytes_eq (name_of key) name || (is_named_in name value || is_named_among name others)

-- ---- all of `overrides`

-- of two rules for one name none is read
abbrev pub both : Option RuleValue → Option RuleValue → Option RuleValue
both None second = second
both (Some first) None = Some first
both (Some first) (Some second) = Some unread

-- the rule, if it is one for the name
abbrev pub rule_if : (is_named : Bool) → RuleValue → Option RuleValue
rule_if is_named rule = if is_named then Some rule else None

-- the rule for a name among these members of `overrides`, and inside them
abbrev pub rule_among : (name : List ℕ) → Members → Option RuleValue
rule_among name no_members = None
rule_among name (member key value others) = both (rule_if (bytes_eq (name_of key) name) (rule_of key value))
    (both (rule_if (is_named_in name value) unread) (rule_among name others))

-- the members of the `overrides` of a manifest
abbrev pub overrides_in : (manifest : Data) → Option Members
overrides_in manifest = option_and_then as_object (get (codes "overrides") manifest)

-- the rule of a manifest for a name
abbrev pub rule_in : (manifest : Data) → (name : List ℕ) → Option RuleValue
rule_in manifest name = option_and_then (rule_among name) (overrides_in manifest)

-- the rule of the root for a name
abbrev pub rule_for : (packages : Data) → (name : List ℕ) → Option RuleValue
rule_for packages name = option_and_then (λ root. rule_in root name) (get [] packages)

-- ---- a dependency

-- The root, and the packages in its `node_modules`. Of other packages, as those of workspaces, not all commands of npm
-- read `overrides`.
abbrev pub is_in_root : (folder : List ℕ) → Bool
is_in_root folder = (length folder == 0) || starts_with nat_eq folder (codes "node_modules/")

-- a spec that changes nothing
abbrev pub keeps_all : (spec : List ℕ) → Bool
keeps_all spec = (length spec == 0) || bytes_eq spec (codes "*")

-- a dependency of the package in this folder, as the rule for its name changes it
abbrev pub changed_by : Option RuleValue → (folder : List ℕ) → AskedValue → AskedValue
changed_by None folder asked = asked
changed_by (Some unread) folder asked = record asked { is_overridden = true }
changed_by (Some (in_place spec)) folder asked = if keeps_all spec then asked
    else (if is_in_root folder then record asked { spec = spec } else record asked { is_overridden = true })

-- a dependency of the package in this folder on a name, as `overrides` of the root change it
abbrev pub overridden : (packages : Data) → (folder name : List ℕ) → AskedValue → AskedValue
overridden packages folder name asked = changed_by (rule_for packages name) folder asked
