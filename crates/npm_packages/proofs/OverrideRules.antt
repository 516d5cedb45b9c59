-- Rules of `overrides` for one name, one after another.
use Rattle.std.proofs.Common.{◌≡◌, ◌∙◌, ◌||◌, Bool, true, false, cond, Option, Some, None, option_map, refl}
use Rattle.npm_packages.specs.Overrides.{RuleValue, both, rule_if, unread}
use Rattle.npm_packages.specs.Rules.{rule_value}
use Rattle.npm_packages.specs.declared.overrides.Rule.{Rule}
use Rattle.npm_packages.specs.declared.overrides.Rule.TheVariants.{Unread}

pub both_none : (a : Option RuleValue) → both a None ≡ a
both_none None = refl
both_none (Some x) = refl

pub both_grouped : (a b c : Option RuleValue) → both (both a b) c ≡ both a (both b c)
both_grouped None b c = refl
both_grouped (Some x) None c = refl
both_grouped (Some x) (Some y) None = refl
both_grouped (Some x) (Some y) (Some z) = refl

pub any_unread : (p q r : Bool) → both (rule_if p unread) (both (rule_if q unread) (rule_if r unread))
    ≡ rule_if (p || (q || r)) unread
any_unread true true true = refl
any_unread true true false = refl
any_unread true false true = refl
any_unread true false false = refl
any_unread false true true = refl
any_unread false true false = refl
any_unread false false true = refl
any_unread false false false = refl

-- two rules are added, and those of the members that are left come after them
pub two_added : (first second third a b rest : Option RuleValue) → second ≡ both first a → third ≡ both second b
    → both third rest ≡ both first (both a (both b rest))
two_added first second third a b rest one two =
    rw (two, one) (both_grouped (both first a) b rest ∙ both_grouped first a (both b rest))

-- the rule that a name had, and the one that it gets
abbrev pub IsPut : (there : Option RuleValue) → (rule made : RuleValue) → Type 0
IsPut None rule made = made ≡ rule
IsPut (Some x) rule made = made ≡ unread

-- a rule is put at its name
pub rule_added : (here : Bool) (old new there : Option RuleValue) (rule made : RuleValue)
    → new ≡ cond here (Some made) old → (here ≡ true → there ≡ old) → IsPut there rule made
    → new ≡ both old (rule_if here rule)
rule_added false old new there rule made is same put = is ∙ (rw both_none refl)
rule_added true old new None rule made is same put = is ∙ rw (← same refl, put) refl
rule_added true old new (Some x) rule made is same put = is ∙ rw (← same refl, put) refl

-- the rule that is put for a name that has one, and for a name that has none
pub put_again : (there : Option Rule) (old made : Rule) (rule : RuleValue) → Some old ≡ there → made ≡ Unread
    → IsPut (option_map rule_value there) rule (rule_value made)
put_again there old made rule is same = rw (← is, same) refl

pub put_first : (there : Option Rule) (rule made : Rule) → None ≡ there → made ≡ rule
    → IsPut (option_map rule_value there) (rule_value rule) (rule_value made)
put_first there rule made is same = rw (← is, same) refl
