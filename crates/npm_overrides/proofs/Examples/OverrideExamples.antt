-- What the definitions say of the examples in npm's documentation of `overrides`.
use Rattle.std.proofs.Common.{◌≡◌, ◌∷◌, ℕ, List, [], true, false, Option, Some, None, arith, codes, refl}
use Rattle.serde_json.specs.Data.{Data, Members, member, no_members, object, string}
use Rattle.npm_overrides.specs.Asks.{AskValue, first_changed}
use Rattle.npm_overrides.specs.Choice.{Counts, inside, named, rules_by, spec_by}
use Rattle.npm_overrides.specs.Ranges.{all}
use Rattle.npm_overrides.specs.Rules.{AreRules, RuleValue, name_of, range_of, root_rule}
use Rattle.npm_overrides.specs.declared.kind.Kind.TheVariants.{Needed}

-- a manifest with these `overrides`
abbrev with_overrides : Members → Data
with_overrides members = object (member (codes "overrides") (object members) no_members)

abbrev rule : (parent : ℕ) → (name range : List ℕ) → (value : Option (List ℕ)) → Members → RuleValue
rule parent name range value members = record { parent = parent; name = name; range = range; value = value; inside = members }

-- ---- keys

pub a_name_alone : name_of (codes "foo") ≡ codes "foo"
a_name_alone = refl

pub a_name_with_a_range : name_of (codes "bar@2.0.0") ≡ codes "bar"
a_name_with_a_range = refl

pub the_range : range_of (codes "bar@2.0.0") ≡ codes "2.0.0"
the_range = refl

pub a_scope : name_of (codes "@s/foo@^1") ≡ codes "@s/foo"
a_scope = refl

pub a_scope_without_a_range : range_of (codes "@s/foo") ≡ codes "*"
a_scope_without_a_range = refl

-- ---- `{"foo": "1.0.0"}`: `foo` "is always installed as version `1.0.0`"

abbrev flat : Data
flat = with_overrides (member (codes "foo") (string (codes "1.0.0")) no_members)

abbrev flat_rules : List RuleValue
flat_rules = root_rule flat ∷ rule 0 (codes "foo") (codes "*") (Some (codes "1.0.0")) no_members ∷ []

pub a_flat_rule : AreRules flat flat_rules
a_flat_rule = record { root = refl; others = refl }

pub it_counts : Counts flat_rules (codes "foo") (codes "^2") 0 (Some 1)
it_counts = inside 0 1 (record {
  rule = rule 0 (codes "foo") (codes "*") (Some (codes "1.0.0")) no_members;
  inside = record { there = refl; around = refl; after = omega arith };
  fits = named true refl (all refl);
  first = λ place small other here. absurd (omega (arith, here.after));
})

pub its_spec_counts : spec_by flat_rules (Some 1) (codes "^2") ≡ codes "1.0.0"
its_spec_counts = refl

pub below_it_the_same_rules_count : rules_by flat_rules (Some 1) 0 ≡ 0
below_it_the_same_rules_count = refl

-- ---- `{"foo": {".": "1.0.0", "bar": "1.0.0"}}`: `bar` "at any depth beyond `foo` also"

abbrev inside_foo : Members
inside_foo = member (codes ".") (string (codes "1.0.0")) (member (codes "bar") (string (codes "1.0.0")) no_members)

abbrev full : Data
full = with_overrides (member (codes "foo") (object inside_foo) no_members)

abbrev full_rules : List RuleValue
full_rules = root_rule full ∷ rule 0 (codes "foo") (codes "*") (Some (codes "1.0.0")) inside_foo
    ∷ rule 1 (codes "bar") (codes "*") (Some (codes "1.0.0")) no_members ∷ []

pub a_full_rule : AreRules full full_rules
a_full_rule = record { root = refl; others = refl }

pub below_foo_its_rules_count : rules_by full_rules (Some 1) 0 ≡ 1
below_foo_its_rules_count = refl

-- ---- `{"baz": {"bar": {"foo": "1.0.0"}}}`: `foo` only "when it's a child of `bar` and only when `bar` is a child of `baz`"

abbrev inside_bar : Members
inside_bar = member (codes "foo") (string (codes "1.0.0")) no_members

abbrev inside_baz : Members
inside_baz = member (codes "bar") (object inside_bar) no_members

abbrev nested : Data
nested = with_overrides (member (codes "baz") (object inside_baz) no_members)

pub nested_rules : AreRules nested (root_rule nested ∷ rule 0 (codes "baz") (codes "*") None inside_baz
    ∷ rule 1 (codes "bar") (codes "*") None inside_bar ∷ rule 2 (codes "foo") (codes "*") (Some (codes "1.0.0")) no_members ∷ [])
nested_rules = record { root = refl; others = refl }

-- ---- `{"bar@2.0.0": {"foo": "1.0.0"}}`: `foo` only "when it's a child of `bar@2.0.0`", by which `bar` itself is found

abbrev ranged : Data
ranged = with_overrides (member (codes "bar@2.0.0") (object inside_bar) no_members)

pub ranged_rules : AreRules ranged (root_rule ranged ∷ rule 0 (codes "bar") (codes "2.0.0") (Some (codes "2.0.0")) inside_bar
    ∷ rule 1 (codes "foo") (codes "*") (Some (codes "1.0.0")) no_members ∷ [])
ranged_rules = record { root = refl; others = refl }

-- a rule for some versions comes before one for all
abbrev both : Data
both = with_overrides (member (codes "foo") (string (codes "2")) (member (codes "foo@1") (string (codes "1.5.0")) no_members))

pub both_rules : AreRules both (root_rule both ∷ rule 0 (codes "foo") (codes "1") (Some (codes "1.5.0")) no_members
    ∷ rule 0 (codes "foo") (codes "*") (Some (codes "2")) no_members ∷ [])
both_rules = record { root = refl; others = refl }

-- ---- `{"dependencies": {"foo": "^1.0.0"}}` with references to the spec of `foo`

abbrev referring : (foo bar : List ℕ) → Data
referring foo bar = object (member (codes "dependencies") (object (member (codes "foo") (string (codes "^1.0.0")) no_members))
    (member (codes "overrides") (object (member (codes "bar") (string bar) (member (codes "foo") (string foo) no_members))) no_members))

pub referring_rules : AreRules (referring (codes "$foo") (codes "$foo")) (root_rule (referring (codes "$foo") (codes "$foo"))
    ∷ rule 0 (codes "bar") (codes "*") (Some (codes "^1.0.0")) no_members
    ∷ rule 0 (codes "foo") (codes "*") (Some (codes "^1.0.0")) no_members ∷ [])
referring_rules = record { root = refl; others = refl }

abbrev ask : (spec : List ℕ) → AskValue
ask spec = record { name = codes "foo"; kind = Needed; spec = spec; rules = 0; bundled = false }

-- "BAD, will throw an EOVERRIDE error"
pub a_changed_dependency : first_changed (referring (codes "^2.0.0") (codes "1")) (ask (codes "^2.0.0") ∷ []) ≡ Some (codes "foo")
a_changed_dependency = refl

-- "GOOD, specs match so override is allowed"
pub the_same_spec : first_changed (referring (codes "^1.0.0") (codes "1")) (ask (codes "^1.0.0") ∷ []) ≡ None
the_same_spec = refl
