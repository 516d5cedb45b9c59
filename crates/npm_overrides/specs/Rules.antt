-- The rules of `overrides`: npm's "package.json", "overrides".
use Rattle.std.specs.Prelude.{◌≡◌, ◌++◌, ◌&&◌, ℕ, suc, List, [], ◌∷◌, Bool, true, false, not, if◌then◌else◌, Option, Some, None, bytes_eq}
use Rattle.std.specs.Prelude.{codes, drop, option_and_then, option_map, slice_get, unwrap_or}
use Rattle.std.specs.List.{before_first}
use Rattle.std.specs.Option.{option_map_or, option_or}
use Rattle.serde_json.specs.Data.{Data, Members, member, no_members}
use Rattle.serde_json.specs.Find.{as_object, as_str, get}
use Rattle.serde_json.specs.View.{members_view}
use Rattle.npm_packages.specs.Asked.{asked_of}
use Rattle.npm_packages.specs.Overrides.{overrides_in}
use Rattle.npm_texts.specs.RangeText.{filled, range_after}
use Rattle.npm_texts.specs.SpecGrammar.{at_sign, is_at_sign}
use Rattle.npm_texts.specs.Texts.{rest_after}
use Rattle.npm_overrides.specs.declared.rule.Rule.{Rule}

-- A rule: the place of the rule around it in the list of all, the name and the range that it is for, the spec that counts in place of
-- the one that is written, if it changes that, and the members of its object.
pub record RuleValue : Type 0 where
  pub parent : ℕ
  pub name : List ℕ
  pub range : List ℕ
  pub value : Option (List ℕ)
  pub inside : Members

-- ---- one rule

-- the name of a key, up to an `@` that is not its first byte: `a` of `a` and of `a@^1`, and `@s/a` of `@s/a@^1`
abbrev pub name_of : (key : List ℕ) → List ℕ
name_of key = option_map_or (λ scoped. at_sign ∷ before_first is_at_sign scoped) (rest_after (codes "@") key)
    (before_first is_at_sign key)

-- "The key of an override can also include a version, or range of versions": `^1` of `a@^1` and of `@s/a@^1`. Of `a` it is `*`.
abbrev pub range_of : (key : List ℕ) → List ℕ
range_of key = range_after (unwrap_or (rest_after (codes "@") key) key) (codes "*")

-- the spec in "short hand notation", `{"a": "1"}`, or in "the full object form", `{"a": {".": "1"}}`
abbrev pub written_in : (value : Data) → Option (List ℕ)
written_in value = option_or (as_str value) (option_and_then as_str (get (codes ".") value))

-- the spec by which the root asks for a name itself
abbrev pub spec_of_root : (manifest : Data) → (name : List ℕ) → Option (List ℕ)
spec_of_root manifest name = option_map (λ asked. asked.spec) (asked_of manifest false name)

-- "A reference to a spec for a direct dependency": for `$a` the spec by which the root asks for `a`. Each other text stands for itself,
-- and so does a reference to a name that the root does not ask for.
abbrev pub referred : (manifest : Data) → (text : List ℕ) → List ℕ
referred manifest text = unwrap_or (option_and_then (spec_of_root manifest) (rest_after (codes "$") text)) text

abbrev pub is_star : List ℕ → Bool
is_star text = bytes_eq text (codes "*")

-- the spec of a text, unless it is `*`, which changes nothing
abbrev pub changed_to : (manifest : Data) → (text : List ℕ) → Option (List ℕ)
changed_to manifest text = if is_star text then None else Some (referred manifest text)

-- the spec of a rule: the text that is written, or else the range of the key, as in `{"a@2.0.0": {"b": "1"}}`
abbrev pub value_of : (manifest : Data) → (key : List ℕ) → (value : Data) → Option (List ℕ)
value_of manifest key value = changed_to manifest (option_map_or filled (written_in value) (range_of key))

-- the members of an object, and none of what is no object
abbrev pub members_of : Option Members → Members
members_of found = unwrap_or found no_members

abbrev pub rule_of : (manifest : Data) → (parent : ℕ) → (key : List ℕ) → (value : Data) → RuleValue
rule_of manifest parent key value = record {
  parent = parent;
  name = name_of key;
  range = range_of key;
  value = value_of manifest key value;
  inside = members_of (as_object value);
}

-- the first rule, that of the root: all others are inside it
abbrev pub root_rule : (manifest : Data) → RuleValue
root_rule manifest = record {
  parent = 0;
  name = [];
  range = codes "*";
  value = None;
  inside = members_of (overrides_in manifest);
}

-- ---- the rules inside a rule

-- each member but `.` is a rule, with a range or without one
abbrev pub is_rule : (key : List ℕ) → (with_range : Bool) → Bool
is_rule key true = not (bytes_eq key (codes ".")) && not (is_star (range_of key))
is_rule key false = not (bytes_eq key (codes ".")) && is_star (range_of key)

-- those with a range, or those without one
abbrev pub rules_among : (manifest : Data) → (parent : ℕ) → (with_range : Bool) → Members → List RuleValue
rules_among manifest parent with_range no_members = []
rules_among manifest parent with_range (member key value others) = if is_rule key with_range
    then rule_of manifest parent key value ∷ rules_among manifest parent with_range others
    else rules_among manifest parent with_range others

-- those with a range come first: a rule for some versions is nearer than one for all
abbrev pub rules_inside : (manifest : Data) → (parent : ℕ) → Members → List RuleValue
rules_inside manifest parent members = rules_among manifest parent true members ++ rules_among manifest parent false members

-- ---- all rules

-- the rules inside the rule at this place, and then those inside the ones after it
abbrev pub all_inside : (manifest : Data) → (place : ℕ) → List RuleValue → List RuleValue
all_inside manifest place [] = []
all_inside manifest place (rule ∷ rules) = rules_inside manifest place rule.inside ++ all_inside manifest (suc place) rules

-- the rule of the root, then the rules inside it, then those inside each of these in their order, and so on
pub record AreRules (manifest : Data) (rules : List RuleValue) : Type 0 where
  pub root : slice_get rules 0 ≡ Some (root_rule manifest)
  pub others : drop 1 rules ≡ all_inside manifest 0 rules

-- ---- what a contract sees

abbrev pub rule_value : Rule → RuleValue
rule_value rule = record {
  parent = rule.parent;
  name = rule.name.now;
  range = rule.range.now;
  value = option_map (λ text. text.now) rule.value;
  inside = members_of (option_map (λ members. members_view members.now.entries) rule.inside);
}
