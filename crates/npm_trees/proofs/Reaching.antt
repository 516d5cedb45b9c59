-- Places that are reached, one after the other.
use Rattle.std.proofs.Common.{◌≡◌, ◌∙◌, ◌⊎◌, ◌↔◌, ◌++◌, ◌<◌, ◌+◌, ◌==◌, ℕ, zero, suc, List, [], ◌∷◌, Bool, Option, None, Some, Vec, Global, ap, append-nil, append_assoc}
use Rattle.std.proofs.Common.{arith, cond, false, get_or, inl, inr, is_eq, length, nat_cmp, refl, slice_get, subst, sym, take, true}
use Rattle.std.proofs.lemmas.Bool.Decides.{Decides-eqb, nat_tests}
use Rattle.std.proofs.lemmas.List.{take_more}
use Rattle.std.proofs.lemmas.List.Elements.{Contains-append_left, Contains-push, Contains-push_cases}
use Rattle.std.proofs.lemmas.Option.{slice_get-get_or, slice_get_within}
use Rattle.std.specs.BTreeSet.{contains_by}
use Rattle.std.specs.List.{Contains}
use Rattle.npm_trees.specs.Places.{up_of}
use Rattle.npm_trees.specs.Reaching.{IsReached, IsTop, Leads, dependency, folder, further, link, link_of, top}
use Rattle.npm_trees.specs.Private.Reaching.{AreAdded, AreHeld, AreMarked, AreWays, Has, HasWay, IsNext}
use Rattle.npm_trees.specs.declared.found.Found.{Found}
use Rattle.npm_trees.specs.declared.tree.Ask.{Ask}
use Rattle.npm_trees.specs.declared.tree.Document.{Document}
use Rattle.npm_trees.specs.declared.tree.Place.{Place}
use Rattle.npm_trees.proofs.Indexing.{is_eq-nat_cmp}

-- ---- lists

pub none_in : {X : Type 0} (x : X) → Contains ([]) x → ⊥
none_in x h = omega (arith, h.1)

get_append : {X : Type 0} (xs ys : List X) (k : ℕ) → k < length xs → slice_get (xs ++ ys) k ≡ slice_get xs k
get_append [] ys k below = absurd (omega arith)
get_append (x ∷ xs) ys zero below = refl
get_append (x ∷ xs) ys (suc k) below = get_append xs ys k (omega arith)

past_end : {X : Type 0} (xs : List X) (bound k : ℕ) (x : X) → slice_get xs bound ≡ None → slice_get xs k ≡ Some x → k < bound
past_end [] bound k x none is = absurd (cc is)
past_end (y ∷ xs) zero k x none is = absurd (cc none)
past_end (y ∷ xs) (suc bound) zero x none is = omega arith
past_end (y ∷ xs) (suc bound) (suc k) x none is = let rest = past_end xs bound k x none is in omega arith

pub in_list : {X : Type 0} (xs : List X) (k : ℕ) (x : X) → slice_get xs k ≡ Some x → Contains xs x
in_list {X} xs k x is =
    let within = slice_get_within xs k x is in
    let same : Some (get_or xs k x) ≡ Some x = sym (slice_get-get_or xs k x within) ∙ is in
    (k, within, cc same)

pub at_some : {X : Type 0} (xs : List X) (x : X) → Contains xs x → (k : ℕ) × (slice_get xs k ≡ Some x)
at_some xs x there = (there.0, slice_get-get_or xs there.0 x there.1 ∙ ap Some there.2)

-- ---- places that are added

module _ (A : ℕ → Type 0) (a b : Found) (added : AreAdded A a b) where
  pub still : (number : ℕ) → Has a number → Has b number
  still number h = rw added.kept (Contains-append_left a.order.items added.rest number h)

  pub alike : (B : ℕ → Type 0) → ((number : ℕ) → A number → B number) → ((number : ℕ) → B number → A number) → AreAdded B a b
  alike B to from = record {
    marked = added.marked;
    rest = added.rest;
    kept = added.kept;
    all = λ number h. added.all number (from number h);
    only = λ number h. elim (added.only number h) [ inl before ↦ inl before | inr is ↦ inr (to number is) ];
  }

pub joined : (A B : ℕ → Type 0) (a b c : Found) → AreAdded A a b → AreAdded B b c → AreAdded (λ number. A number ⊎ B number) a c
joined A B a b c first second = record {
  marked = second.marked;
  rest = first.rest ++ second.rest;
  kept = second.kept ∙ ap (λ l. l ++ second.rest) first.kept ∙ append_assoc a.order.items first.rest second.rest;
  all = λ number h. elim h [ inl is ↦ still B b c second number (first.all number is) | inr is ↦ second.all number is ];
  only = λ number h. elim (second.only number h) [
    | inl before ↦ elim (first.only number before) [ inl older ↦ inl older | inr is ↦ inr (inl is) ]
    | inr is ↦ inr (inr is)
  ];
}

pub nothing_added : (A : ℕ → Type 0) (a : Found) → AreMarked a → ((number : ℕ) → A number → ⊥) → AreAdded A a a
nothing_added A a marked never = record {
  marked = marked;
  rest = [];
  kept = sym (append-nil a.order.items);
  all = λ number h. absurd (never number h);
  only = λ number h. inl h;
}

pub known_added : (number : ℕ) (a : Found) → AreMarked a → contains_by (nat_cmp number) a.marked ≡ true
    → AreAdded (λ other. number ≡ other) a a
known_added number a marked is = record {
  marked = marked;
  rest = [];
  kept = sym (append-nil a.order.items);
  all = λ other same. let here = (marked number).0 is in rw same at here;
  only = λ other h. inl h;
}

module _ (number : ℕ) (a b : Found) (marked : AreMarked a) (order : b.order.items ≡ a.order.items ++ number ∷ [])
    (marks : (q : ℕ) → contains_by (nat_cmp q) b.marked ≡ cond (is_eq (nat_cmp number q)) true (contains_by (nat_cmp q) a.marked)) where
  mark_cases : (q : ℕ) (t old : Bool) → (number == q) ≡ t → contains_by (nat_cmp q) a.marked ≡ old → cond t true old ≡ true → Has b q
  mark_cases q true old same was is =
      let here : number ≡ q = (Decides-eqb number q).0 same in
      rw order (subst (λ (n : ℕ). Contains (a.order.items ++ number ∷ []) n) here (Contains-push a.order.items number))
  mark_cases q false old same was is = rw order (Contains-append_left a.order.items (number ∷ []) q ((marked q).0 (was ∙ is)))

  cond_later : (t old : Bool) → (old ≡ true) ⊎ (t ≡ true) → cond t true old ≡ true
  cond_later true old h = refl
  cond_later false old (inl is) = is
  cond_later false old (inr is) = cc is

  now_marked : AreMarked b
  now_marked q = (
    (λ is. mark_cases q (number == q) (contains_by (nat_cmp q) a.marked) refl refl (sym (rw is_eq-nat_cmp at (marks q)) ∙ is)),
    (λ has. (rw is_eq-nat_cmp at (marks q)) ∙ cond_later (number == q) (contains_by (nat_cmp q) a.marked)
        (elim (Contains-push_cases a.order.items number q (rw order at has)) [
          | inl before ↦ inl ((marked q).1 before)
          | inr same ↦ inr ((Decides-eqb number q).1 same)
        ])),
  )

  pub fresh_added : AreAdded (λ other. number ≡ other) a b
  fresh_added = record {
    marked = now_marked;
    rest = number ∷ [];
    kept = order;
    all = λ other same. rw order (subst (λ (n : ℕ). Contains (a.order.items ++ number ∷ []) n) same (Contains-push a.order.items number));
    only = λ other has. Contains-push_cases a.order.items number other (rw order at has);
  }

-- those of a list so far, and one more
pub one_more_added : (xs : List ℕ) (i d x : ℕ) (a b c : Found) → i < length xs → x ≡ get_or xs i d
    → AreAdded (Contains (take i xs)) a b → AreAdded (λ other. x ≡ other) b c → AreAdded (Contains (take (i + 1) xs)) a c
one_more_added xs i d x a b c within is first second =
    let more : take (i + 1) xs ≡ take i xs ++ x ∷ [] = take_more xs i d within ∙ ap (λ y. take i xs ++ y ∷ []) (sym is) in
    alike (λ other. Contains (take i xs) other ⊎ (x ≡ other)) a c (joined (Contains (take i xs)) (λ other. x ≡ other) a b c first second)
    (Contains (take (i + 1) xs))
    (λ other h. rw more (elim h [
      | inl before ↦ Contains-append_left (take i xs) (x ∷ []) other before
      | inr same ↦ subst (λ (n : ℕ). Contains (take i xs ++ x ∷ []) n) same (Contains-push (take i xs) x)
    ]))
    (λ other h. Contains-push_cases (take i xs) x other (rw more at h))

-- the folder, the link and the ways of a place, one after the other
module _ (places : List Place) (ways : List (Vec ℕ Global)) (number : ℕ) (a b c d : Found) (up to : Option ℕ) (list : List ℕ)
    (up_is : up ≡ up_of places number) (to_is : to ≡ link_of places number)
    (list_is : (other : ℕ) → Contains list other ↔ HasWay ways number other)
    (first : AreAdded (λ other. up ≡ Some other) a b) (second : AreAdded (λ other. to ≡ Some other) b c) (third : AreAdded (Contains list) c d)
  where
    abbrev Added : ℕ → Type 0
    Added other = ((up ≡ Some other) ⊎ (to ≡ Some other)) ⊎ Contains list other

    forth : (other : ℕ) → Added other → IsNext places ways number other
    forth other (inl (inl is)) = inl (inl (sym up_is ∙ is))
    forth other (inl (inr is)) = inl (inr (sym to_is ∙ is))
    forth other (inr is) = inr ((list_is other).0 is)

    back : (other : ℕ) → IsNext places ways number other → Added other
    back other (inl (inl is)) = inl (inl (up_is ∙ is))
    back other (inl (inr is)) = inl (inr (to_is ∙ is))
    back other (inr is) = inr ((list_is other).1 is)

    pub next_added : AreAdded (IsNext places ways number) a d
    next_added = alike Added a d (joined (λ other. (up ≡ Some other) ⊎ (to ≡ Some other)) (Contains list) a c d
        (joined (λ other. up ≡ Some other) (λ other. to ≡ Some other) a b c first second) third) (IsNext places ways number) forth back

-- ---- what a place leads to

module _ (places : List Place) (documents : List Document) (asks : List Ask) (ways : List (Vec ℕ Global)) (are : AreWays places documents asks ways) where
  to_next : (number to : ℕ) → Leads places documents asks number to → IsNext places ways number to
  to_next number to (folder is) = inl (inl is)
  to_next number to (link is) = inl (inr is)
  to_next number to (dependency ask there from unbundled seen asks_for) = inr ((are number to).1
      (record { ask = ask; there = there; from = from; wanted = record { unbundled = unbundled; seen = seen; asks_for = asks_for } }))

  from_next : (number to : ℕ) → IsNext places ways number to → Leads places documents asks number to
  from_next number to (inl (inl is)) = folder is
  from_next number to (inl (inr is)) = link is
  from_next number to (inr way) =
      let w = (are number to).0 way in
      dependency w.ask w.there w.from w.wanted.unbundled w.wanted.seen w.wanted.asks_for

  pub begins : (reached : Found) → AreMarked reached → ((number : ℕ) → Has reached number ↔ IsTop places number)
      → AreHeld places documents asks 0 reached
  begins reached marked tops = record {
    marked = marked;
    sound = λ number h. top number ((tops number).0 h);
    tops = λ number h. (tops number).1 h;
    closed = λ k number to below is leads. absurd (omega arith);
  }

  module _ (bound number : ℕ) (old new : Found) (held : AreHeld places documents asks bound old)
      (here : slice_get old.order.items bound ≡ Some number) (added : AreAdded (IsNext places ways number) old new) where
    closed_at : (k other to : ℕ) (b : Bool) → (k == bound) ≡ b → k < bound + 1 → slice_get old.order.items k ≡ Some other
        → Leads places documents asks other to → Has new to
    closed_at k other to true last below is leads =
        let same : k ≡ bound = (Decides-eqb k bound).0 last in
        let there : slice_get old.order.items bound ≡ Some other = rw same at is in
        let equal : other ≡ number = cc (there, here) in
        added.all to (to_next number to (rw equal at leads))
    closed_at k other to false last below is leads =
        still (IsNext places ways number) old new added to (held.closed k other to (grind (arith, nat_tests)) is leads)

    was_there : (k : ℕ) → k < bound + 1 → slice_get new.order.items k ≡ slice_get old.order.items k
    was_there k below = ap (λ l. slice_get l k) added.kept
        ∙ get_append old.order.items added.rest k (omega (arith, slice_get_within old.order.items bound number here))

    pub held_more : AreHeld places documents asks (bound + 1) new
    held_more = record {
      marked = added.marked;
      sound = λ other h. elim (added.only other h) [
        | inl before ↦ held.sound other before
        | inr next ↦ further number other (held.sound number (in_list old.order.items bound number here)) (from_next number other next)
      ];
      tops = λ other is. still (IsNext places ways number) old new added other (held.tops other is);
      closed = λ k other to below is leads. closed_at k other to (k == bound) refl below (sym (was_there k below) ∙ is) leads;
    }

  module _ (bound : ℕ) (reached : Found) (held : AreHeld places documents asks bound reached)
      (done : slice_get reached.order.items bound ≡ None) where
    before_end : (k number : ℕ) → slice_get reached.order.items k ≡ Some number → k < bound
    before_end k number is = past_end reached.order.items bound k number done is

    complete : (number : ℕ) → IsReached places documents asks number → Has reached number
    complete number (top _ is) = held.tops number is
    complete number (further before _ is leads) =
        let at = at_some reached.order.items before (complete before is) in
        held.closed at.0 before number (before_end at.0 before at.1) at.1 leads

    pub all_reached : (number : ℕ) → Has reached number ↔ IsReached places documents asks number
    all_reached number = (held.sound number, complete number)
