-- The first exceptions that name the values by which an advisory is known.
use Rattle.std.proofs.Common.{◌≡◌, ◌∙◌, ◌<◌, ◌≤◌, ◌+◌, ℕ, List, Bool, Option, None, false, drop, get_or, length, option_and_then, refl, sym}
use Rattle.serde_json.specs.Data.{Data, array, boolean, float, negative, no_items, null, number, object, string, unsigned}
use Rattle.serde_json.specs.Find.{as_number, as_str, as_u64}
use Rattle.serde_json.specs.View.{items_view, view}
use Rattle.serde_json.specs.declared.value.Value.{Value}
use Rattle.std.proofs.lemmas.List.{drop_all, drop_more}
use Rattle.npm_lock_reports.specs.Exceptions.{ExceptionsValue}
use Rattle.npm_lock_reports.specs.Private.Places.{earlier, first_by}
use Rattle.npm_lock_reports.proofs.Placing.{earlier-assoc, earlier-none, first-none, first-or}
use Rattle.npm_advisories.specs.Advisories.{alias_item}
use Rattle.npm_advisories.specs.KnownIds.{any_is, is_id, is_text}

-- an `id` that is neither a text nor a number of digits
id-neither : (value : Data) → as_str value ≡ None → option_and_then as_u64 (as_number value) ≡ None
    → (known : List ℕ) → is_id known value ≡ false
id-neither null is none known = refl
id-neither (boolean _) is none known = refl
id-neither (number (unsigned _)) is none known = absurd (cc none)
id-neither (number (negative _)) is none known = refl
id-neither (number (float _)) is none known = refl
id-neither (string _) is none known = absurd (cc is)
id-neither (array _) is none known = refl
id-neither (object _) is none known = refl

-- a value that is no text
item-none : (value : Data) → as_str value ≡ None → (known : List ℕ) → is_text known value ≡ false
item-none value is known = rw is refl

module _ (exceptions : ExceptionsValue) (name : List ℕ) where
  abbrev first : (List ℕ → Bool) → Option ℕ
  first is_one = first_by exceptions name is_one

  pub by-neither : (value : Data) → as_str value ≡ None → option_and_then as_u64 (as_number value) ≡ None
      → None ≡ first (λ known. is_id known value)
  by-neither value is none = sym (first-none exceptions name (λ known. is_id known value) (id-neither value is none))

  pub by-no-value : (value : Data) → as_str value ≡ None → None ≡ first (λ known. is_text known value)
  by-no-value value is = sym (first-none exceptions name (λ known. is_text known value) (item-none value is))

  pub by-no-alias : None ≡ first (λ known. any_is known no_items)
  by-no-alias = sym (first-none exceptions name (λ known. any_is known no_items) (λ known. refl))

  pub by-no-address : (text : Option (List ℕ)) → text ≡ None → None ≡ first (λ known. any_is known (alias_item text))
  by-no-address text is = rw is by-no-alias

  module _ (values : List Value) (i : ℕ) where
    abbrev those : ℕ → Option ℕ
    those k = first (λ known. any_is known (items_view (drop k values)))

    pub one-value : (one : Value) → i < length values → one ≡ get_or values i one → (before place all : Option ℕ)
        → place ≡ first (λ known. is_text known (view one)) → earlier before (those i) ≡ all
        → earlier (earlier before place) (those (i + 1)) ≡ all
    one-value one lt is before place all here found =
        let step : those i ≡ earlier (first (λ known. is_text known (view one))) (those (i + 1)) =
        rw (drop_more values i one lt, ← is) (first-or exceptions name (λ known. is_text known (view one))
        (λ known. any_is known (items_view (drop (i + 1) values)))) in
        earlier-assoc before place (those (i + 1)) ∙ rw (here, ← step) found

    pub all-values : length values ≤ i → (found all : Option ℕ) → earlier found (those i) ≡ all → found ≡ all
    all-values end found all before =
        let none : those i ≡ None = rw (drop_all i values end) (sym by-no-alias) in
        sym (earlier-none found) ∙ rw none at before
