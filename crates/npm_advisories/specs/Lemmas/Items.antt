-- Lists of JSON values, one value after another.
use Rattle.std.proofs.Common.{◌≡◌, ◌∙◌, ◌++◌, ◌<◌, ◌+◌, ◌≤◌, ℕ, List, Option, None, add-one, ap, append-nil, drop}
use Rattle.std.proofs.Common.{[], drop-cons, get_or, length, refl, sym}
use Rattle.std.proofs.lemmas.List.{append_assoc, drop_all}
use Rattle.serde_json.specs.Data.{Data, Items, item, no_items}
use Rattle.serde_json.specs.View.{items_view, view}
use Rattle.serde_json.specs.declared.value.Value.{Value}
use Rattle.npm_advisories.specs.Faults.{first_fault}
use Rattle.npm_advisories.specs.Private.Reading.{IsUnreadAs}
use Rattle.npm_advisories.specs.declared.fault.FaultKind.{FaultKind}
use Rattle.npm_advisories.specs.declared.fault.Unread.{Unread}
use Rattle.npm_advisories.specs.declared.fault.Unread.TheVariants.{Memory, Refused}

module _ (entries : List Value) (i : ℕ) (one : Value) (lt : i < length entries)
    (is : one ≡ get_or entries i one) where
  -- a value and those after it
  pub left : items_view (drop i entries) ≡ item (view one) (items_view (drop (i + 1) entries))
  left = rw (add-one, drop-cons entries i one lt, ← is) refl

-- no value is left
pub left-none : (entries : List Value) (i : ℕ) → length entries ≤ i → items_view (drop i entries) ≡ no_items
left-none entries i done = rw (drop_all i entries done) refl

module _ (entries : List Value) (i : ℕ) (one : Value) (lt : i < length entries)
    (is_at : one ≡ get_or entries i one) where
  -- one value without a fault
  pub fault-passed : (fault_of : Data → Option FaultKind) (whole : Option FaultKind) → fault_of (view one) ≡ None
      → whole ≡ first_fault fault_of (items_view (drop i entries))
      → whole ≡ first_fault fault_of (items_view (drop (i + 1) entries))
  fault-passed fault_of whole none before = before ∙ ap (first_fault fault_of) (left entries i one lt is_at) ∙
      (rw none refl)

  -- the first one with a fault
  pub fault-found : (fault_of : Data → Option FaultKind) (whole : Option FaultKind) (unread : Unread)
      → IsUnreadAs (fault_of (view one)) unread → whole ≡ first_fault fault_of (items_view (drop i entries))
      → IsUnreadAs whole unread
  fault-found fault_of whole (Refused kind) is before =
      before ∙ ap (first_fault fault_of) (left entries i one lt is_at) ∙ (rw is refl)
  fault-found fault_of whole Memory is before = tt

  -- the values so far, with those of one entry more
  pub read-passed : {X : Type 0} (f : Items → List X) (part : Data → List X)
      → ((d : Data) (others : Items) → f (item d others) ≡ part d ++ f others) → (whole front : List X)
      → whole ≡ front ++ f (items_view (drop i entries))
      → whole ≡ (front ++ part (view one)) ++ f (items_view (drop (i + 1) entries))
  read-passed f part step whole front before =
      before ∙ ap (λ items. front ++ f items) (left entries i one lt is_at)
      ∙ ap (λ l. front ++ l) (step (view one) (items_view (drop (i + 1) entries)))
      ∙ sym (append_assoc front (part (view one)) (f (items_view (drop (i + 1) entries))))

module _ (entries : List Value) (i : ℕ) (done : length entries ≤ i) where
  -- no value is left
  pub fault-ended : (fault_of : Data → Option FaultKind) (whole : Option FaultKind)
      → whole ≡ first_fault fault_of (items_view (drop i entries)) → whole ≡ None
  fault-ended fault_of whole before = before ∙ ap (first_fault fault_of) (left-none entries i done)

  pub read-ended : {X : Type 0} (f : Items → List X) → f no_items ≡ [] → (whole front : List X)
      → whole ≡ front ++ f (items_view (drop i entries)) → whole ≡ front
  read-ended f none whole front before =
      before ∙ ap (λ items. front ++ f items) (left-none entries i done) ∙ ap (λ l. front ++ l) none ∙ append-nil front
