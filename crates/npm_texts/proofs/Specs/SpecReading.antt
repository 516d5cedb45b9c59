-- Specs: the functions give what the grammar says, and each text is one thing.
use Rattle.std.proofs.Common.{◌≡◌, ◌∙◌, ◌∷◌, ℕ, List, Bool, true, false, Option, Some, None, ap, if◌then◌else◌, inl, inr}
use Rattle.std.proofs.Common.{option_and_then, refl, subst, sym}
use Rattle.std.proofs.lemmas.Bool.{cases_Bool}
use Rattle.std.proofs.lemmas.Bool.Decides.{not_from_Decides}
use Rattle.std.proofs.lemmas.Bool.{false_from_ne_true}
use Rattle.std.specs.Option.{option_map_or}
use Rattle.npm_texts.specs.RangeText.{alias_target, alias_value, aliased_name, is_elsewhere, other_value, spec_of}
use Rattle.npm_texts.specs.RangeText.{target_name, target_range}
use Rattle.npm_texts.specs.SpecGrammar.{IsAlias, IsAliasOf, IsLocation, IsSpec, IsTarget, SpecValue, filled, in_registry}
use Rattle.npm_texts.specs.SpecGrammar.{alias, elsewhere, from_registry, location, refused, refused_alias}
use Rattle.npm_texts.specs.SpecLaws.{IsNamedAsWritten, IsOneSpec, IsSpecAsWritten}
use Rattle.npm_texts.proofs.Specs.Aliases.{alias-again, alias-takes}
use Rattle.npm_texts.proofs.Specs.Locations.{location-Decides}
use Rattle.npm_texts.proofs.Specs.Targets.{target-read, target-written}

-- ---- locations

pub no-location : (text : List ℕ) → is_elsewhere text ≡ false → ¬ IsLocation text
no-location text = not_from_Decides (is_elsewhere text) (location-Decides text)

elsewhere-not : (text : List ℕ) → ¬ IsLocation text → is_elsewhere text ≡ false
elsewhere-not text not_location =
    false_from_ne_true (is_elsewhere text) (λ is. not_location ((location-Decides text).0 is))

-- ---- what the functions give is of the grammar

aliased-written : (text target : List ℕ) → IsAlias text target → IsSpec text (alias_value (target_range target))
aliased-written text target is = elim (cases_Bool (is_elsewhere (target_range target))) [
  | inl there ↦
      rw there (refused_alias target (target_name target) (target_range target) is (target-written target)
      ((location-Decides (target_range target)).0 there))
  | inr not_there ↦
      rw not_there (alias target (target_name target) (target_range target) is (target-written target)
      (no-location (target_range target) not_there))
]

other-written : (text : List ℕ) → ((target : List ℕ) → ¬ IsAlias text target) → IsSpec text (other_value text)
other-written text no_alias = elim (cases_Bool (is_elsewhere text)) [
  | inl there ↦ rw there (elsewhere no_alias ((location-Decides text).0 there))
  | inr not_there ↦ rw not_there (from_registry no_alias (no-location text not_there))
]

by_target : (text : List ℕ) (o : Option (List ℕ)) → alias_target text ≡ o
    → IsSpec text (option_map_or (λ (target : List ℕ). alias_value (target_range target)) o (other_value text))
by_target text (Some target) is = aliased-written text target (alias-takes text target is)
by_target text None is =
    other-written text (λ target aliased. cc (alias-again text target aliased, is))

pub spec-written : (text : List ℕ) → IsSpec text (spec_of text)
spec-written text = by_target text (alias_target text) refl

-- ---- what is of the grammar is what the functions give

aliased-value : (text target range : List ℕ) (name : Option (List ℕ)) → IsAlias text target → IsTarget target name range
    → spec_of text ≡ alias_value range
aliased-value text target range name is named =
    ap (λ (o : Option (List ℕ)). option_map_or (λ (t : List ℕ). alias_value (target_range t)) o (other_value text))
    (alias-again text target is)
    ∙ ap alias_value (target-read target name range named).1

pub no-target : (text : List ℕ) (o : Option (List ℕ)) → alias_target text ≡ o → ((target : List ℕ) → ¬ IsAlias text target)
    → o ≡ None
no-target text None is no_alias = refl
no-target text (Some target) is no_alias = absurd (no_alias target (alias-takes text target is))

unaliased-value : (text : List ℕ) → ((target : List ℕ) → ¬ IsAlias text target) → spec_of text ≡ other_value text
unaliased-value text no_alias =
    ap (λ (o : Option (List ℕ)). option_map_or (λ (t : List ℕ). alias_value (target_range t)) o (other_value text))
    (no-target text (alias_target text) refl no_alias)

pub spec-read : (text : List ℕ) (value : SpecValue) → IsSpec text value → spec_of text ≡ value
spec-read text value (alias target name range is named not_there) =
    aliased-value text target range name is named
    ∙ ap (λ (b : Bool). if b then refused else in_registry range) (elsewhere-not range not_there)
spec-read text value (refused_alias target name range is named there) =
    aliased-value text target range name is named
    ∙ ap (λ (b : Bool). if b then refused else in_registry range) ((location-Decides range).1 there)
spec-read text value (elsewhere no_alias there) =
    unaliased-value text no_alias
    ∙ ap (λ (b : Bool). if b then location else in_registry (filled text)) ((location-Decides text).1 there)
spec-read text value (from_registry no_alias not_there) =
    unaliased-value text no_alias
    ∙ ap (λ (b : Bool). if b then location else in_registry (filled text)) (elsewhere-not text not_there)

-- ---- the laws of specs

pub spec-as_written : (text : List ℕ) (value : SpecValue) → IsSpecAsWritten text value
spec-as_written text value = ((λ is. subst (IsSpec text) is (spec-written text)), spec-read text value)

pub one-spec : (text : List ℕ) → IsOneSpec text
one-spec text one other is_one is_other = sym (spec-read text one is_one) ∙ spec-read text other is_other

-- ---- the name of an alias

name-takes : (text target name : List ℕ) → alias_target text ≡ Some target
    → (if is_elsewhere (target_range target) then None else target_name target) ≡ Some name → IsAliasOf text name
name-takes text target name is named = elim (cases_Bool (is_elsewhere (target_range target))) [
  | inl there ↦ let none : None ≡ Some name = rw there at named in cc none
  | inr not_there ↦
      let same : target_name target ≡ Some name = rw not_there at named in
      record {
        target = target;
        range = target_range target;
        aliased = alias-takes text target is;
        named = subst (λ (o : Option (List ℕ)). IsTarget target o (target_range target)) same (target-written target);
        registered = no-location (target_range target) not_there;
      }
]

name-by_target : (text name : List ℕ) (o : Option (List ℕ)) → alias_target text ≡ o
    → option_and_then (λ (target : List ℕ). if is_elsewhere (target_range target) then None else target_name target) o
    ≡ Some name → IsAliasOf text name
name-by_target text name None is named = cc named
name-by_target text name (Some target) is named = name-takes text target name is named

name-again : (text name : List ℕ) → IsAliasOf text name → aliased_name text ≡ Some name
name-again text name is =
    let read = target-read is.target (Some name) is.range is.named in
    let there : is_elsewhere (target_range is.target) ≡ false =
    ap is_elsewhere read.1 ∙ elsewhere-not is.range is.registered in
    ap (option_and_then (λ (target : List ℕ).
    if is_elsewhere (target_range target) then None else target_name target))
    (alias-again text is.target is.aliased)
    ∙ ap (λ (b : Bool). if b then None else target_name is.target) there ∙ read.0

pub named-as_written : (text name : List ℕ) → IsNamedAsWritten text name
named-as_written text name = (name-by_target text name (alias_target text) refl, name-again text name)

-- ---- for contracts

pub value-written : (text : List ℕ) (value : SpecValue) → value ≡ spec_of text → IsSpec text value
value-written text value is = subst (IsSpec text) (sym is) (spec-written text)
