-- The ways that dependencies lead, one after the other.
use Rattle.std.proofs.Common.{◌≡◌, ◌∙◌, ◌⊎◌, ◌↔◌, ◌++◌, ◌<◌, ◌+◌, ◌==◌, ℕ, zero, suc, List, [], ◌∷◌, Bool, Option, None, Some, Vec, Global, ap, arith, false}
use Rattle.std.proofs.Common.{get_or, inl, inr, length, refl, slice_get, sym, take, true}
use Rattle.std.proofs.lemmas.Bool.Decides.{Decides-eqb, nat_tests}
use Rattle.std.proofs.lemmas.List.{take_more}
use Rattle.std.proofs.lemmas.List.Elements.{Contains-append_left, Contains-push, Contains-push_cases}
use Rattle.std.proofs.lemmas.Option.{slice_get_within}
use Rattle.std.specs.List.{Contains}
use Rattle.npm_trees.specs.Places.{Sees, start_of}
use Rattle.npm_trees.specs.Reaching.{AsksFor, IsTop}
use Rattle.npm_trees.specs.Private.Folders.{IsOnlySeen}
use Rattle.npm_trees.specs.Private.Reaching.{AreAdded, AreWays, Has, HasWay, IsTold, IsWanted}
use Rattle.npm_trees.specs.declared.found.Found.{Found}
use Rattle.npm_trees.specs.declared.tree.Ask.{Ask}
use Rattle.npm_trees.specs.declared.tree.Kind.TheVariants.{Needed}
use Rattle.npm_trees.specs.declared.tree.Document.{Document}
use Rattle.npm_trees.specs.declared.tree.Place.{Place}
use Rattle.npm_trees.proofs.Reaching.{none_in, still}

-- ---- lists

get_push : {X : Type 0} (xs : List X) (x : X) (k : ℕ)
    → (slice_get (xs ++ x ∷ []) k ≡ slice_get xs k) ⊎ (slice_get (xs ++ x ∷ []) k ≡ Some x)
get_push [] x zero = inr refl
get_push [] x (suc k) = inl refl
get_push (y ∷ xs) x zero = inl refl
get_push (y ∷ xs) x (suc k) = get_push xs x k

-- ---- the ways from one place

pub no_way_more : (ways : List (Vec ℕ Global)) (list : Vec ℕ Global) → list.items ≡ [] → ((number to : ℕ) → HasWay ways number to → ⊥)
    → (number to : ℕ) → HasWay (ways ++ list ∷ []) number to → ⊥
no_way_more ways list empty none number to has = elim (get_push ways list number) [
  | inl same ↦ none number to (rw same at has)
  | inr here ↦ let there : Contains list.items to = rw here at has in none_in to (rw empty at there)
]

-- ---- all ways

-- what stands for a dependency past the end of a list
abbrev pub no_ask : Ask
no_ask = record {
  from = 0;
  name = record { ref_ptr = (0, 0); now = [] };
  kind = Needed;
  spec = record { ref_ptr = (0, 0); now = [] };
  rules = 0;
  bundled = false;
  workspace = None;
}

module _ (places : List Place) (documents : List Document) (asks : List Ask) (i : ℕ) (ask : Ask) (within : i < length asks)
    (d : Ask) (is : ask ≡ get_or asks i d) (old new : List (Vec ℕ Global)) (to : Option ℕ)
    (wanted : (other : ℕ) → (to ≡ Some other) ↔ IsWanted places documents ask other)
    (added : (number other : ℕ) → HasWay new number other ↔ IsTold ask.from to old number other)
    (before : AreWays places documents (take i asks) old) where
  more : take (i + 1) asks ≡ take i asks ++ ask ∷ []
  more = take_more asks i d within ∙ ap (λ y. take i asks ++ y ∷ []) (sym is)

  pub ways_more : AreWays places documents (take (i + 1) asks) new
  ways_more number other = (
    (λ has. elim ((added number other).0 has) [
      | inl was ↦
          let w = (before number other).0 was in
          record { ask = w.ask; there = rw more (Contains-append_left (take i asks) (ask ∷ []) w.ask w.there); from = w.from; wanted = w.wanted }
      | inr this ↦ record { ask = ask; there = rw more (Contains-push (take i asks) ask); from = this.0; wanted = (wanted other).0 this.1 }
    ]),
    (λ w. (added number other).1 (elim (Contains-push_cases (take i asks) ask w.ask (rw more at w.there)) [
      | inl earlier ↦ inl ((before number other).1 (record { ask = w.ask; there = earlier; from = w.from; wanted = w.wanted }))
      | inr same ↦ inr (ap (λ (a : Ask). a.from) same ∙ w.from, (wanted other).1 (rw (← same) at w.wanted))
    ])),
  )

pub no_ways_yet : (places : List Place) (documents : List Document) (ways : List (Vec ℕ Global)) → ((number to : ℕ) → HasWay ways number to → ⊥)
    → AreWays places documents [] ways
no_ways_yet places documents ways none number to = ((λ has. absurd (none number to has)), (λ w. absurd (none_in w.ask w.there)))

-- ---- tops

pub top_within : (places : List Place) (number : ℕ) → IsTop places number → number < length places
top_within places number is = by (slice_get places number) refl where
  by : (o : Option Place) → slice_get places number ≡ o → number < length places
  by None none = absurd (rw none at is)
  by (Some place) there = slice_get_within places number place there

module _ (places : List Place) (number : ℕ) (top : Option ℕ) (is : (other : ℕ) → (top ≡ Some other) ↔ ((number ≡ other) × IsTop places number))
    (old new : Found) (before : (k : ℕ) → Has old k ↔ ((k < number) × IsTop places k)) (added : AreAdded (λ other. top ≡ Some other) old new)
    (k : ℕ) where
  by_last : (b : Bool) → (k == number) ≡ b → k < number + 1 → IsTop places k → Has new k
  by_last true last below top_is =
      let same : k ≡ number = (Decides-eqb k number).0 last in added.all k ((is k).1 (sym same, rw same at top_is))
  by_last false other below top_is =
      still (λ other. top ≡ Some other) old new added k ((before k).1 (grind (arith, nat_tests), top_is))

  pub tops_more : Has new k ↔ ((k < number + 1) × IsTop places k)
  tops_more = (
    (λ has. elim (added.only k has) [
      | inl was ↦ let w = (before k).0 was in (omega (arith, w.0), w.1)
      | inr this ↦ let t = (is k).0 this in (omega (arith, t.0), rw t.0 at t.1)
    ]),
    (λ both. by_last (k == number) refl both.0 both.1),
  )

-- ---- one dependency

module _ (places : List Place) (documents : List Document) (ask : Ask) (found : Option ℕ)
    (only : IsOnlySeen places ask.name.now (start_of places ask) found) where
  pub unseen_never : found ≡ None → (to : ℕ) → IsWanted places documents ask to → ⊥
  unseen_never none to w = let same = only.only (Some to) w.seen in cc (same, none)

  module _ (to : ℕ) (there : found ≡ Some to) (other : ℕ) where
    pub seen_wanted : ask.bundled ≡ false → AsksFor places documents ask to → (Some to ≡ Some other) ↔ IsWanted places documents ask other
    seen_wanted free asks_for = (
      (λ same.
          let equal : to ≡ other = cc same in
          let seen : Sees places ask (Some to) = rw there at only.seen in
          record { unbundled = free; seen = rw equal at seen; asks_for = rw equal at asks_for }),
      (λ w. let same = only.only (Some other) w.seen in cc (same, there)),
    )

    pub refused_never : (AsksFor places documents ask to → ⊥) → IsWanted places documents ask other → ⊥
    refused_never never w =
        let same = only.only (Some other) w.seen in
        let equal : other ≡ to = cc (same, there) in
        never (rw equal at w.asks_for)
