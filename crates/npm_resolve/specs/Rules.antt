-- Which rules of `overrides` count: npm's "package.json", "overrides".
use Rattle.std.specs.Prelude.{ℕ, List, Bool, true, false, Option, Some, None, filter, option_and_then, slice_get}
use Rattle.serde_json.specs.View.{view}
use Rattle.serde_json.specs.declared.value.Value.{Value}
use Rattle.npm_packages.specs.Overrides.{RuleValue, in_place, rule_in, unread}
use Rattle.npm_resolve.specs.Asks.{RulesValue}

-- The rules of the root, which is the first manifest. Of no other package, as that of a workspace, does npm read `overrides`.
abbrev pub rules_of : (manifests : List Value) → RulesValue
rules_of manifests name = option_and_then (λ root. rule_in (view root) name) (slice_get manifests 0)

-- a rule that is not read
abbrev pub is_unread : Option RuleValue → Bool
is_unread None = false
is_unread (Some (in_place spec)) = false
is_unread (Some unread) = true

-- those of these names whose rule is not read
abbrev pub unread_among : RulesValue → (names : List (List ℕ)) → List (List ℕ)
unread_among rules names = filter (λ name. is_unread (rules name)) names
