-- What a dependency asks a registry for: the function gives what the grammar says.
use Rattle.std.proofs.Common.{◌≡◌, ◌∙◌, ℕ, List, Option, Some, None, ap, if◌then◌else◌, inl, inr, is_some, refl, subst, subst₂}
use Rattle.std.proofs.lemmas.Bool.{cases_Bool}
use Rattle.std.proofs.lemmas.Option.{same_Some}
use Rattle.npm_texts.specs.RangeText.{alias_target, alias_value, aliased_name, is_elsewhere, spec_of, target_name}
use Rattle.npm_texts.specs.RangeText.{target_range}
use Rattle.npm_texts.specs.RegistrySpec.{IsRegistrySpec, RegistrySpecValue, of_alias, of_name, of_package, registry_spec}
use Rattle.npm_texts.specs.SpecGrammar.{SpecValue, in_registry, location, refused}
use Rattle.npm_texts.specs.SpecLaws.{IsAskedAsWritten}
use Rattle.npm_texts.specs.WhiteSpace.{trimmed}
use Rattle.npm_texts.proofs.Specs.Aliases.{alias-again}
use Rattle.npm_texts.proofs.Specs.SpecReading.{named-as_written, no-target, spec-as_written}

-- what a package and the value of a spec must be for this to be asked for
record IsAskedBy (named : Option (List ℕ)) (value : SpecValue) (one : RegistrySpecValue) : Type 0 where
  pub text : List ℕ
  pub named_so : named ≡ Some one.name
  pub value_so : value ≡ in_registry text
  pub trimmed_so : trimmed text ≡ one.text

asked-takes : (named : Option (List ℕ)) (value : SpecValue) (one : RegistrySpecValue) → of_package named value ≡ Some one
    → IsAskedBy named value one
asked-takes named location one h = cc h
asked-takes named refused one h = cc h
asked-takes None (in_registry text) one h = cc h
asked-takes (Some name) (in_registry text) one h =
    let same = same_Some _ _ h in
    record {
      text = text;
      named_so = ap (λ (r : RegistrySpecValue). Some r.name) same;
      value_so = refl;
      trimmed_so = ap (λ (r : RegistrySpecValue). r.text) same;
    }

takes-by_target : (name spec : List ℕ) (one : RegistrySpecValue) (o : Option (List ℕ)) → alias_target spec ≡ o
    → IsAskedBy (if is_some o then aliased_name spec else Some name) (spec_of spec) one → IsRegistrySpec name spec one
takes-by_target name spec one None is asked =
    let so : name ≡ one.name = same_Some _ _ asked.named_so in
    subst₂ (λ (n t : List ℕ). IsRegistrySpec name spec (record { name = n; text = t })) so asked.trimmed_so
    (of_name asked.text (λ target aliased. cc (alias-again spec target aliased, is))
    ((spec-as_written spec (in_registry asked.text)).0 asked.value_so))
takes-by_target name spec one (Some target) is asked =
    subst (λ (t : List ℕ). IsRegistrySpec name spec (record { name = one.name; text = t })) asked.trimmed_so
    (of_alias one.name asked.text ((named-as_written spec one.name).0 asked.named_so)
    ((spec-as_written spec (in_registry asked.text)).0 asked.value_so))

asked-again : (name spec : List ℕ) (one : RegistrySpecValue) → IsRegistrySpec name spec one
    → registry_spec name spec ≡ Some one
asked-again name spec _ (of_name text no_alias is) =
    ap (λ (o : Option (List ℕ)). of_package (if is_some o then aliased_name spec else Some name) (spec_of spec))
    (no-target spec (alias_target spec) refl no_alias)
    ∙ ap (of_package (Some name)) ((spec-as_written spec (in_registry text)).1 is)
asked-again name spec _ (of_alias aliased text named is) =
    ap (λ (o : Option (List ℕ)). of_package (if is_some o then aliased_name spec else Some name) (spec_of spec))
    (alias-again spec named.target named.aliased)
    ∙ ap (λ (o : Option (List ℕ)). of_package o (spec_of spec)) ((named-as_written spec aliased).1 named)
    ∙ ap (of_package (Some aliased)) ((spec-as_written spec (in_registry text)).1 is)

pub asked-as_written : (name spec : List ℕ) (one : RegistrySpecValue) → IsAskedAsWritten name spec one
asked-as_written name spec one = (
  λ h. takes-by_target name spec one (alias_target spec) refl (asked-takes _ (spec_of spec) one h),
  asked-again name spec one,
)

-- ---- what the code computes of an alias

of-no_package : (value : SpecValue) → of_package None value ≡ None
of-no_package (in_registry text) = refl
of-no_package location = refl
of-no_package refused = refl

refused-none : (named : Option (List ℕ)) → of_package named refused ≡ None
refused-none named = refl

pub of-alias : (name spec target : List ℕ) → alias_target spec ≡ Some target
    → registry_spec name spec ≡ of_package (target_name target) (alias_value (target_range target))
of-alias name spec target is = elim (cases_Bool (is_elsewhere (target_range target))) [
  | inl there ↦ rw (is, there) refl
  | inr not_there ↦ rw (is, not_there) refl
]

pub no-name : (name spec target : List ℕ) → alias_target spec ≡ Some target → target_name target ≡ None
    → registry_spec name spec ≡ None
no-name name spec target is none =
    of-alias name spec target is
    ∙ ap (λ (o : Option (List ℕ)). of_package o (alias_value (target_range target))) none
    ∙ of-no_package (alias_value (target_range target))
