-- The rules inside a rule: one place more is passed.
use Rattle.std.proofs.Common.{◌≡◌, ◌∙◌, ◌+◌, ◌<◌, ◌≤◌, ℕ, List, Bool, true, false, Some, None, ap, below_more, get_or, length, map}
use Rattle.std.proofs.Common.{option_map, refl, subst, sym}
use Rattle.std.proofs.lemmas.Option.{slice_get-map, slice_get_past, slice_get_read}
use Rattle.std.specs.List.{slice_get}
use Rattle.npm_overrides.specs.Choice.{Fits, IsFirstInside, IsInside, NoneBefore}
use Rattle.npm_overrides.specs.Private.Steps.{FitsInside}
use Rattle.npm_overrides.specs.Rules.{RuleValue, rule_value}
use Rattle.npm_overrides.specs.declared.rule.Rule.{Rule}

pub none_more : (rules : List RuleValue) (parent : ℕ) (name spec : List ℕ) (at : ℕ) (rule : RuleValue)
    → slice_get rules at ≡ Some rule → (rule.parent ≡ parent → parent < at → Fits rule name spec false)
    → NoneBefore rules parent name spec at → NoneBefore rules parent name spec (at + 1)
none_more rules parent name spec at rule there missed none =
    below_more (λ (place : ℕ). (other : RuleValue) → IsInside rules parent place other → Fits other name spec false) at none here
  where
    here : (other : RuleValue) → IsInside rules parent at other → Fits other name spec false
    here other inside =
        let same : other ≡ rule = one other (sym inside.there ∙ there) in
        let around : rule.parent ≡ parent = sym (ap (λ (r : RuleValue). r.parent) same) ∙ inside.around in
        rw same (missed around inside.after)
      where
        one : (r : RuleValue) → Some r ≡ Some rule → r ≡ rule
        one r is = cc is

pub fits_when : (rule : RuleValue) (place parent : ℕ) (name spec : List ℕ) (met : Bool) → rule.parent ≡ parent → parent < place
    → Fits rule name spec met → FitsInside rule place parent name spec met
fits_when rule place parent name spec true same small fits = (same, small, fits)
fits_when rule place parent name spec false same small fits = λ _ _. fits

-- the rule that is read at a place
pub there_at : (rules got : List Rule) (at : ℕ) (rule : Rule) → got ≡ rules → at < length got → rule ≡ get_or got at rule
    → slice_get (map rule_value rules) at ≡ Some (rule_value rule)
there_at rules got at rule same small is = slice_get-map rule_value rules at
    ∙ ap (option_map rule_value) (ap (λ (xs : List Rule). slice_get xs at) (sym same) ∙ slice_get_read got (length got) at rule refl small is)

-- no rule is read past the last one
pub past_all : (rules got : List Rule) (at : ℕ) → got ≡ rules → length got ≤ at → slice_get (map rule_value rules) at ≡ None
past_all rules got at same large = slice_get-map rule_value rules at
    ∙ ap (option_map rule_value) (ap (λ (xs : List Rule). slice_get xs at) (sym same) ∙ slice_get_past got at large)

-- the first rule that fits is found
pub first_found : (rules : List RuleValue) (parent : ℕ) (name spec : List ℕ) (at : ℕ) (rule : RuleValue) (met : Bool)
    → slice_get rules at ≡ Some rule → FitsInside rule at parent name spec met → met ≡ true → NoneBefore rules parent name spec at
    → IsFirstInside rules parent name spec at
first_found rules parent name spec at rule met there fits is none =
    let found : FitsInside rule at parent name spec true = subst (FitsInside rule at parent name spec) is fits in
    record { rule = rule; inside = record { there = there; around = found.0; after = found.1 }; fits = found.2; first = none }

pub none_found : (rules : List RuleValue) (parent : ℕ) (name spec : List ℕ) (at : ℕ) (rule : RuleValue) (met : Bool)
    → slice_get rules at ≡ Some rule → FitsInside rule at parent name spec met → met ≡ false → NoneBefore rules parent name spec at
    → NoneBefore rules parent name spec (at + 1)
none_found rules parent name spec at rule met there fits is none =
    none_more rules parent name spec at rule there (subst (FitsInside rule at parent name spec) is fits) none
