-- What a map of the rules of `overrides` has.
use Rattle.std.specs.Prelude.{◌≡◌, ℕ, List, Option, option_map}
use Rattle.std.specs.BTreeMap.{BTreeMap, get_by}
use Rattle.std.specs.Cmp.Lexicographic.{slice_cmp}
use Rattle.std.specs.Ordering.{nat_cmp}
use Rattle.serde_json.specs.Data.{Data}
use denote.Ref.{Bor}
use Rattle.npm_packages.specs.Overrides.{RuleValue, in_place, rule_for, rule_in, unread}
use Rattle.npm_packages.specs.declared.overrides.Rule.{Rule}
use Rattle.npm_packages.specs.declared.overrides.Rule.TheVariants as Rules

-- a rule as a value
abbrev pub rule_value : Rule → RuleValue
rule_value (Rules.InPlace spec) = in_place spec.now
rule_value Rules.Unread = unread

-- the rule that the map has for a name
abbrev pub rule_at : BTreeMap (Bor (List ℕ)) Rule → (name : List ℕ) → Option RuleValue
rule_at rules name = option_map rule_value (get_by (λ k. slice_cmp nat_cmp name k.now) rules)

-- these are the rules in the `overrides` of a manifest
abbrev pub AreRulesIn : (manifest : Data) → BTreeMap (Bor (List ℕ)) Rule → Type 0
AreRulesIn manifest rules = (name : List ℕ) → rule_at rules name ≡ rule_in manifest name

-- these are the rules in the `overrides` of the root
abbrev pub AreRules : (packages : Data) → BTreeMap (Bor (List ℕ)) Rule → Type 0
AreRules packages rules = (name : List ℕ) → rule_at rules name ≡ rule_for packages name
