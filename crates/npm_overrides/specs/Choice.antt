-- Which rule counts for a dependency: npm's "package.json", "overrides".
use Rattle.std.specs.Prelude.{◌≡◌, ◌<◌, ◌≤◌, ◌||◌, ℕ, List, Bool, true, false, not, if◌then◌else◌, Option, Some, None, bytes_eq}
use Rattle.std.specs.Prelude.{codes, length, option_and_then, slice_get, unwrap_or}
use Rattle.std.specs.Option.{option_map_or}
use Rattle.serde_json.specs.Data.{Members, member, no_members}
use Rattle.npm_overrides.specs.Ranges.{Meets}
use Rattle.npm_overrides.specs.Rules.{RuleValue}

-- the rule is for a dependency on this name by this spec, or it is not
pub data Fits (rule : RuleValue) (name spec : List ℕ) : Bool → Type 0 where
  other : bytes_eq rule.name name ≡ false → Fits rule name spec false
  named : (met : Bool) → bytes_eq rule.name name ≡ true → Meets rule.range spec met → Fits rule name spec met

-- the rule at this place is inside the one at `parent`
pub record IsInside (rules : List RuleValue) (parent place : ℕ) (rule : RuleValue) : Type 0 where
  pub there : slice_get rules place ≡ Some rule
  pub around : rule.parent ≡ parent
  pub after : parent < place

-- no rule inside the one at `parent` is for the dependency, of those before this place
abbrev pub NoneBefore : (rules : List RuleValue) → (parent : ℕ) → (name spec : List ℕ) → (before : ℕ) → Type 0
NoneBefore rules parent name spec before = (place : ℕ) → place < before → (rule : RuleValue) → IsInside rules parent place rule
    → Fits rule name spec false

abbrev pub NoneInside : (rules : List RuleValue) → (parent : ℕ) → (name spec : List ℕ) → Type 0
NoneInside rules parent name spec = NoneBefore rules parent name spec (length rules)

-- the rule at this place is the first inside the one at `parent` that is for the dependency
pub record IsFirstInside (rules : List RuleValue) (parent : ℕ) (name spec : List ℕ) (place : ℕ) : Type 0 where
  pub rule : RuleValue
  pub inside : IsInside rules parent place rule
  pub fits : Fits rule name spec true
  pub first : NoneBefore rules parent name spec place

-- The place of the rule that counts for a dependency of a package, if one does, where the rules at `place` count below the package. The
-- nearest counts: "a child of `bar` and only when `bar` is a child of `baz`" is a rule inside that of `bar`, inside that of `baz`. So
-- first come the rules inside the one at `place`, then that one itself, and then those around it in the same way, up to the root's.
pub data Counts (rules : List RuleValue) (name spec : List ℕ) : (place : ℕ) → Option ℕ → Type 0 where
  inside : (place found : ℕ) → IsFirstInside rules place name spec found → Counts rules name spec place (Some found)
  itself : (place : ℕ) (rule : RuleValue) → slice_get rules place ≡ Some rule → NoneInside rules place name spec
      → rule.parent < place → Fits rule name spec true → Counts rules name spec place (Some place)
  around : (place : ℕ) (rule : RuleValue) (found : Option ℕ) → slice_get rules place ≡ Some rule
      → NoneInside rules place name spec → rule.parent < place → Fits rule name spec false
      → Counts rules name spec rule.parent found → Counts rules name spec place found
  none : (place : ℕ) (rule : RuleValue) → slice_get rules place ≡ Some rule → NoneInside rules place name spec
      → place ≤ rule.parent → Counts rules name spec place None
  nowhere : (place : ℕ) → slice_get rules place ≡ None → Counts rules name spec place None

-- ---- what a rule changes

-- the spec of the rule, if it changes the one that is written
abbrev pub spec_by : (rules : List RuleValue) → (rule : Option ℕ) → (written : List ℕ) → List ℕ
spec_by rules None written = written
spec_by rules (Some place) written = unwrap_or (option_and_then (λ (rule : RuleValue). rule.value) (slice_get rules place)) written

-- a member but `.`
abbrev pub has_rule : Members → Bool
has_rule no_members = false
has_rule (member key value others) = not (bytes_eq key (codes ".")) || has_rule others

-- the rules inside a rule count below a package that it is for; if there are none, those around it do
abbrev pub rules_below : (place : ℕ) → RuleValue → ℕ
rules_below place rule = if has_rule rule.inside then place else rule.parent

-- the rules that count below a package that meets a dependency, by the rule that counts for that; without one, they stay the same
abbrev pub rules_by : (rules : List RuleValue) → (rule : Option ℕ) → (counts : ℕ) → ℕ
rules_by rules None counts = counts
rules_by rules (Some place) counts = option_map_or (rules_below place) (slice_get rules place) place
