-- What is written through a reference into an object.
use Rattle.std.proofs.Common.{◌≡◌, ◌∙◌, ℕ, List, [], ◌∷◌, Bool, true, false, Some, None, Result, Ok, Err, OnOk}
use Rattle.std.proofs.Common.{String, Global, bytes_eq, is_eq, nat_cmp, refl, string_bytes, sym}
use Rattle.std.proofs.lemmas.Map.Text.{is_eq-slice_cmp}
use Rattle.std.specs.BTreeMap.{is_at}
use Rattle.std.specs.Cmp.Lexicographic.{slice_cmp}
use Rattle.std.specs.Map.{lookup, set_value}
use Rattle.serde_json.specs.Data.{Data}
use Rattle.serde_json.specs.View.{members_view, view}
use Rattle.serde_json.specs.declared.value.Value.{Value}
use Rattle.npm_lock.specs.ManifestPlace.{changed_at}

pub on_ok : {X E P Q : Type 0} (r : Result X E) → OnOk r P → (P → Q) → OnOk r Q
on_ok (Ok x) holds more = more holds
on_ok (Err e) holds more = tt

module _ (name : List ℕ) (change : Data → Data) where
  -- the key is that name
  abbrev test : String Global → Bool
  test = is_at (λ k. slice_cmp nat_cmp name (string_bytes k))

  -- the value of a name that is there is changed
  pub changed : (es : List (String Global × Value)) (old new : Value) → lookup test es ≡ Some old
      → view new ≡ change (view old) → members_view (set_value test es new) ≡ changed_at name change (members_view es)
  changed [] old new is to = cc is
  changed (e ∷ es) old new is to = at _ refl is (changed es old new) where
    at : (b : Bool) → is_eq (slice_cmp nat_cmp name (string_bytes e.0)) ≡ b → lookup test (e ∷ es) ≡ Some old
        → (lookup test es ≡ Some old → view new ≡ change (view old)
        → members_view (set_value test es new) ≡ changed_at name change (members_view es))
        → members_view (set_value test (e ∷ es) new) ≡ changed_at name change (members_view (e ∷ es))
    at true here is later =
        let equal : bytes_eq name (string_bytes e.0) ≡ true = sym (is_eq-slice_cmp name (string_bytes e.0)) ∙ here in
        let found : Some e.1 ≡ Some old = rw here at is in
        let same : e.1 ≡ old = cc found in
        rw (here, equal, same, to) refl
    at false here is later =
        let differ : bytes_eq name (string_bytes e.0) ≡ false = sym (is_eq-slice_cmp name (string_bytes e.0)) ∙ here in
        let found : lookup test es ≡ Some old = rw here at is in
        rw (here, differ, later found to) refl

  -- nothing is changed if the name is not there
  pub unchanged : (es : List (String Global × Value)) → lookup test es ≡ None
      → members_view es ≡ changed_at name change (members_view es)
  unchanged [] is = refl
  unchanged (e ∷ es) is = at _ refl is (unchanged es) where
    at : (b : Bool) → is_eq (slice_cmp nat_cmp name (string_bytes e.0)) ≡ b → lookup test (e ∷ es) ≡ None
        → (lookup test es ≡ None → members_view es ≡ changed_at name change (members_view es))
        → members_view (e ∷ es) ≡ changed_at name change (members_view (e ∷ es))
    at true here is later = let found : Some e.1 ≡ None = rw here at is in cc found
    at false here is later =
        let differ : bytes_eq name (string_bytes e.0) ≡ false = sym (is_eq-slice_cmp name (string_bytes e.0)) ∙ here in
        let found : lookup test es ≡ None = rw here at is in
        rw (differ, ← later found) refl
