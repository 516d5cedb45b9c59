-- Names that versions need, one item of a list after the other.
use Rattle.std.proofs.Common.{◌≡◌, ◌∙◌, ◌||◌, ◌+◌, ◌<◌, ◌≤◌, ℕ, List, [], ◌∷◌, Bool, ap, cond, false, get_or, length, refl, subst, sym, take, true}
use Rattle.std.proofs.lemmas.List.{take_all, take_more}
use Rattle.std.proofs.lemmas.List.Folds.{list_any-append}
use Rattle.std.specs.List.{list_any}
use Rattle.npm_resolve.specs.Private.Needing.{AreNeeded, has}
use Rattle.npm_resolve.specs.declared.missing.Needed.{Needed}

or_assoc : (a b c : Bool) → ((a || b) || c) ≡ (a || (b || c))
or_assoc true b c = refl
or_assoc false b c = refl

pub if_or : (a b : Bool) → cond b true a ≡ (a || b)
if_or true true = refl
if_or true false = refl
if_or false true = refl
if_or false false = refl

or_false : (a : Bool) → a ≡ (a || false)
or_false true = refl
or_false false = refl

pub none_needed : (needed : Needed) → AreNeeded (λ name. false) needed needed
none_needed needed name = or_false (has needed name)

module _ {A : Type 0} (test : List ℕ → A → Bool) (items : List A) where
  one_more : (i : ℕ) (none : A) (name : List ℕ) → i < length items
      → list_any (test name) (take (i + 1) items) ≡ (list_any (test name) (take i items) || test name (get_or items i none))
  one_more i none name small = ap (list_any (test name)) (take_more items i none small)
      ∙ list_any-append (test name) (take i items) (get_or items i none ∷ [])
      ∙ ap (λ b. list_any (test name) (take i items) || b) (sym (or_false (test name (get_or items i none))))

  pub needed_more : (i : ℕ) (none : A) (first old new : Needed) → i < length items
      → AreNeeded (λ name. list_any (test name) (take i items)) first old
      → AreNeeded (λ name. test name (get_or items i none)) old new
      → AreNeeded (λ name. list_any (test name) (take (i + 1) items)) first new
  needed_more i none first old new small held added name = added name
      ∙ ap (λ b. b || test name (get_or items i none)) (held name)
      ∙ or_assoc (has first name) (list_any (test name) (take i items)) (test name (get_or items i none))
      ∙ ap (λ b. has first name || b) (sym (one_more i none name small))

  -- the same by an item that stands there
  pub needed_at : (i : ℕ) (one : A) (first old new : Needed) → i < length items → one ≡ get_or items i one
      → AreNeeded (λ name. list_any (test name) (take i items)) first old → AreNeeded (λ name. test name one) old new
      → AreNeeded (λ name. list_any (test name) (take (i + 1) items)) first new
  needed_at i one first old new small is held added =
      needed_more i one first old new small held (subst (λ (x : A). AreNeeded (λ name. test name x) old new) is added)

  pub needed_all : (i : ℕ) (first new : Needed) → length items ≤ i
      → AreNeeded (λ name. list_any (test name) (take i items)) first new
      → AreNeeded (λ name. list_any (test name) items) first new
  needed_all i first new past held = subst (λ (l : List A). AreNeeded (λ name. list_any (test name) l) first new) (take_all i items past) held
