-- The first opened demand of a list.
use Rattle.std.proofs.Common.{◌≡◌, ◌≢◌, ◌&&◌, ◌++◌, ◌<◌, ◌∙◌, ℕ, Bool, true, false, cond, List, [], ◌∷◌, length, Option, Some, None, is_none, Contains, get_or, suc, zero, arith, refl, ap, sym}
use Rattle.std.proofs.lemmas.List.Elements.{Contains-append_right}
use Rattle.version_solving.specs.declared.demand.Demand.{Demand}
use Rattle.version_solving.specs.Solving.{Selection, first_open, is_open}

-- a demand in a list that needs the name, where the name has no candidate
pub record IsOpenFor (s : Selection) (demands : List Demand) (name : ℕ) : Type 0 where
  pub demand : Demand
  pub inside : Contains demands demand
  pub needed : demand.needed ≡ true
  pub named : demand.name ≡ name
  pub free : s name ≡ None

Contains-head : {X : Type 0} (x : X) (xs : List X) → Contains (x ∷ xs) x
Contains-head x xs = (0, omega arith, refl)

Contains-tail : {X : Type 0} (y : X) (xs : List X) (x : X) → Contains xs x → Contains (y ∷ xs) x
Contains-tail y xs x h = Contains-append_right (y ∷ []) xs x h

pub and_true : (a b : Bool) → (a && b) ≡ true → (a ≡ true) × (b ≡ true)
and_true true true h = (refl, refl)
and_true true false h = absurd (cc)
and_true false b h = absurd (cc)

pub none_from : (o : Option ℕ) → is_none o ≡ true → o ≡ None
none_from None h = refl
none_from (Some x) h = absurd (cc)

-- the first open demand, as the first one is open or not
pub first_at : (s : Selection) (d : Demand) (more : List Demand) (b : Bool) → is_open s d ≡ b
    → first_open s (d ∷ more) ≡ cond b (Some d.name) (first_open s more)
first_at s d more b is = ap (λ b. cond b (Some d.name) (first_open s more)) is

found_step : (s : Selection) (d : Demand) (more : List Demand) (name : ℕ)
    → (first_open s more ≡ Some name → IsOpenFor s more name) → (b : Bool) → is_open s d ≡ b
    → first_open s (d ∷ more) ≡ Some name → IsOpenFor s (d ∷ more) name
found_step s d more name later true is found =
    let same : Some d.name ≡ Some name = sym (first_at s d more true is) ∙ found in
    let named : d.name ≡ name = cc in
    let both = and_true d.needed (is_none (s d.name)) is in
    record {
      demand = d;
      inside = Contains-head d more;
      needed = both.0;
      named = named;
      free = sym (ap s named) ∙ none_from (s d.name) both.1;
    }
found_step s d more name later false is found =
    let rest = later (sym (first_at s d more false is) ∙ found) in
    record {
      demand = rest.demand;
      inside = Contains-tail d more rest.demand rest.inside;
      needed = rest.needed;
      named = rest.named;
      free = rest.free;
    }

pub open_found : (s : Selection) (demands : List Demand) (name : ℕ) → first_open s demands ≡ Some name → IsOpenFor s demands name
open_found s [] name found = absurd (cc)
open_found s (d ∷ more) name found = found_step s d more name (open_found s more name) (is_open s d) refl found

none_step : (s : Selection) (d : Demand) (more ys : List Demand)
    → (first_open s more ≡ None → first_open s (more ++ ys) ≡ first_open s ys) → (b : Bool) → is_open s d ≡ b
    → first_open s (d ∷ more) ≡ None → first_open s (d ∷ (more ++ ys)) ≡ first_open s ys
none_step s d more ys later true is none =
    let same : Some d.name ≡ None = sym (first_at s d more true is) ∙ none in absurd (cc)
none_step s d more ys later false is none =
    first_at s d (more ++ ys) false is ∙ later (sym (first_at s d more false is) ∙ none)

pub open_none-append : (s : Selection) (xs ys : List Demand) → first_open s xs ≡ None → first_open s (xs ++ ys) ≡ first_open s ys
open_none-append s [] ys none = refl
open_none-append s (d ∷ more) ys none = none_step s d more ys (open_none-append s more ys) (is_open s d) refl none

some_step : (s : Selection) (d : Demand) (more ys : List Demand) (name : ℕ)
    → (first_open s more ≡ Some name → first_open s (more ++ ys) ≡ Some name) → (b : Bool) → is_open s d ≡ b
    → first_open s (d ∷ more) ≡ Some name → first_open s (d ∷ (more ++ ys)) ≡ Some name
some_step s d more ys name later true is some =
    first_at s d (more ++ ys) true is ∙ (sym (first_at s d more true is) ∙ some)
some_step s d more ys name later false is some =
    first_at s d (more ++ ys) false is ∙ later (sym (first_at s d more false is) ∙ some)

pub open_some-append : (s : Selection) (xs ys : List Demand) (name : ℕ) → first_open s xs ≡ Some name → first_open s (xs ++ ys) ≡ Some name
open_some-append s [] ys name some = absurd (cc)
open_some-append s (d ∷ more) ys name some = some_step s d more ys name (open_some-append s more ys name) (is_open s d) refl some

pub open_same : (s t : Selection) → ((name : ℕ) → s name ≡ t name) → (xs : List Demand) → first_open s xs ≡ first_open t xs
open_same s t same [] = refl
open_same s t same (d ∷ more) =
    ap (λ o. cond (d.needed && is_none o) (Some d.name) (first_open s more)) (same d.name)
    ∙ ap (λ o. cond (is_open t d) (Some d.name) o) (open_same s t same more)

-- where no demand is open, each that needs its name has a candidate for it
closed_at : (s : Selection) (d : Demand) → d.needed ≡ true → s d.name ≡ None → (xs : List Demand) → first_open s xs ≡ None
    → (k : ℕ) → k < length xs → get_or xs k d ≡ d → ⊥
closed_at s d needed free [] none k small is = omega arith
closed_at s d needed free (y ∷ more) none k small is =
    closed_step (closed_at s d needed free more) (is_open s y) refl k small is none where
      opens : is_open s d ≡ true
      opens = ap (λ b. b && is_none (s d.name)) needed ∙ ap (λ o. is_none o) free

      closed_step : (first_open s more ≡ None → (k' : ℕ) → k' < length more → get_or more k' d ≡ d → ⊥) → (b : Bool)
          → is_open s y ≡ b → (k' : ℕ) → k' < length (y ∷ more) → get_or (y ∷ more) k' d ≡ d → first_open s (y ∷ more) ≡ None → ⊥
      closed_step later true is_opened k' small' is' none' =
          let same : Some y.name ≡ None = sym (first_at s y more true is_opened) ∙ none' in absurd (cc)
      closed_step later false is_opened zero small' is' none' =
          let differ : true ≡ false = sym opens ∙ (sym (ap (λ e. is_open s e) is') ∙ is_opened) in absurd (cc)
      closed_step later false is_opened (suc k') small' is' none' =
          later (sym (first_at s y more false is_opened) ∙ none') k' (omega arith) is'

pub needed_has : (s : Selection) (xs : List Demand) → first_open s xs ≡ None → (d : Demand) → Contains xs d → d.needed ≡ true → s d.name ≢ None
needed_has s xs none d inside needed free = closed_at s d needed free xs none inside.0 inside.1 inside.2
