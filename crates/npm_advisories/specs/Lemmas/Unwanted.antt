-- Advisories about packages that are not wanted.
use Rattle.std.proofs.Common.{◌≡◌, ◌∙◌, ◌||◌, ℕ, List, [], ◌∷◌, Bool, true, false, if◌then◌else◌, Option, Some, None}
use Rattle.std.proofs.Common.{bytes_eq, codes, refl, sym, subst}
use Rattle.std.proofs.lemmas.List.Elements.{filter-append}
use Rattle.std.proofs.lemmas.Slice.Eq.{bytes_eq-Decides}
use Rattle.std.specs.Option.{option_map_or}
use Rattle.serde_json.specs.Data.{Data, Items, item, no_items}
use Rattle.npm_advisories.specs.Advisories.{AboutValue, AdvisoryValue, Affected, about_name, npm_advisory, npm_list}
use Rattle.npm_advisories.specs.OsvPackages.{any_concerns, concerns, is_about_wanted, may_concern}
use Rattle.npm_advisories.specs.OsvForm.{affected_list, is_withdrawn, items_at, npm_name, osv_about, osv_advisories}
use Rattle.npm_advisories.specs.OsvForm.{osv_affected}
use Rattle.toml_datetime.specs.declared.datetime.Date.{Date}

either-false : (a b : Bool) → (a || b) ≡ false → (a ≡ false) × (b ≡ false)
either-false true b is = absurd (cc)
either-false false b is = (refl, is)

if-none : (test : Bool) (values : List AdvisoryValue) (name : List ℕ) → about_name name values ≡ []
    → about_name name (if test then [] else values) ≡ []
if-none true values name none = refl
if-none false values name none = none

module _ (is_wanted : List ℕ → Bool) (name : List ℕ) (is : is_wanted name ≡ true) where
  -- a name that is not wanted is another one
  other-name : (here : List ℕ) → is_wanted here ≡ false → bytes_eq here name ≡ false
  other-name here not = by_test (bytes_eq here name) refl where
    by_test : (same : Bool) → bytes_eq here name ≡ same → same ≡ false
    by_test false e = refl
    by_test true e =
        let yes : is_wanted here ≡ true = subst (λ n. is_wanted n ≡ true) (sym ((bytes_eq-Decides here name).0 e)) is in
        absurd (cc (yes, not))

  -- so an advisory about it is none about a name that is
  about-other : (value : AdvisoryValue) (values : List AdvisoryValue) → is_wanted value.name ≡ false
      → about_name name (value ∷ values) ≡ about_name name values
  about-other value values not = rw (other-name value.name not) refl

  -- ---- npm's form

  list-other : (here : List ℕ) → is_wanted here ≡ false → (entries : Items) → about_name name (npm_list here entries) ≡ []
  list-other here not no_items = refl
  list-other here not (item entry others) =
      about-other (npm_advisory here entry) (npm_list here others) not ∙ list-other here not others

  pub member-other : (here : List ℕ) → is_wanted here ≡ false → (list : Option Items)
      → about_name name (option_map_or (npm_list here) list []) ≡ []
  member-other here not None = refl
  member-other here not (Some entries) = list-other here not entries

  -- ---- OSV's form

  part-other : (about : AboutValue) (affected : Affected) (here : Option (List ℕ))
      → option_map_or is_wanted here false ≡ false
      → about_name name (option_map_or (λ n. record { name = n; about = about; affected = affected } ∷ []) here []) ≡ []
  part-other about affected None not = refl
  part-other about affected (Some here) not =
      about-other (record { name = here; about = about; affected = affected }) [] not

  -- an element of `affected`
  pub one-other : (about : AboutValue) (one : Data) → is_about_wanted is_wanted one ≡ false
      → about_name name (option_map_or (λ n. record { name = n; about = about; affected = osv_affected one } ∷ [])
      (npm_name one) []) ≡ []
  one-other about one not = part-other about (osv_affected one) (npm_name one) not

  affected-other : (about : AboutValue) (entries : Items) → any_concerns is_wanted entries ≡ false
      → about_name name (affected_list about entries) ≡ []
  affected-other about no_items not = refl
  affected-other about (item one others) not =
      let both = either-false (may_concern is_wanted one) (any_concerns is_wanted others) not in
      let here = either-false _ (is_about_wanted is_wanted one) both.0 in
      filter-append (λ value. bytes_eq value.name name) _ (affected_list about others)
      ∙ (rw (one-other about one here.1, affected-other about others both.1) refl)

  -- an OSV object
  pub object-other : (today : Date) (entry : Data) → concerns is_wanted entry ≡ false
      → about_name name (osv_advisories today entry) ≡ []
  object-other today entry not =
      let both = either-false _ (any_concerns is_wanted (items_at (codes "affected") entry)) not in
      if-none (is_withdrawn today entry) (affected_list (osv_about entry) (items_at (codes "affected") entry)) name
      (affected-other (osv_about entry) (items_at (codes "affected") entry) both.1)
