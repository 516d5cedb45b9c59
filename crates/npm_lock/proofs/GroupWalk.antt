-- A walk along two groups: which members are left after a name is taken, and which names both groups have.
use Rattle.std.proofs.Common.{◌≡◌, ◌≢◌, ◌⊎◌, ℕ, zero, suc, List, [], ◌∷◌, ◌++◌, Bool, true, false, Option, Some}
use Rattle.std.proofs.Common.{None}
use Rattle.std.proofs.Common.{IsTrue, Ordering, Less, Equal, Greater, ap, arith, bytes_eq, inl, inr, is_eq, nat_cmp}
use Rattle.std.proofs.Common.{option_and_then, option_map, refl, sym, unwrap_or}
use Rattle.std.proofs.Common.{BTreeMap, Global, String, append_assoc, append-nil}
use denote.Ref.{Bor}
use Rattle.std.proofs.lemmas.Slice.Eq.{bytes_eq-Decides}
use Rattle.std.specs.Cmp.{nat_cmp_total}
use Rattle.std.specs.Cmp.Lexicographic.{lists_total, slice_cmp}
use Rattle.std.specs.List.{AllByRecursion, Contains, cons_option}
use Rattle.std.specs.List.Sorted.{IsStrictlySortedBy}
use Rattle.std.specs.Option.{IsSome, option_to_list}
use Rattle.std.specs.Ordering.{is_le, is_lt, ordering_reverse}
use Rattle.serde_json.specs.Data.{Data, Members, member, no_members}
use Rattle.serde_json.specs.Find.{as_object, get, get_member}
use Rattle.serde_json.specs.View.{members_view}
use Rattle.serde_json.specs.declared.value.Value.{Value}
use Rattle.npm_texts.specs.ObjectKeys.{keys_of}
use Rattle.npm_lock.specs.Mismatches.{AreGroupNames, MismatchValue, group_text}
use Rattle.npm_lock.specs.Private.GroupSpecs.{AreSorted, IsFirst, IsFirstOf, IsLeft, first_key}
use Rattle.npm_lock.specs.declared.group.Group.{Group}
use Rattle.npm_texts.specs.Lemmas.Objects.{in_group, in_no_group}
use Rattle.npm_texts.specs.Lemmas.Keys.{exact, itself, other}

-- the key comes after this name
abbrev IsAfter : (name key : List ℕ) → Type 0
IsAfter name key = slice_cmp nat_cmp name key ≡ Less

-- ---- one group

never_after : (x : List ℕ) → ¬ IsAfter x x
never_after x less = let no : is_eq (slice_cmp nat_cmp x x) ≡ false = ap is_eq less in cc (itself x, no)

differs : (x y : List ℕ) → IsAfter x y → y ≢ x
differs x y less same = never_after x (rw same at less)

-- a member of another name
other_key : (o : Ordering) (n k : List ℕ) (v : Data) (ms : Members) → slice_cmp nat_cmp n k ≡ o → n ≢ k
    → get_member n (member k v ms) ≡ get_member n ms
other_key Less n k v ms is differ = rw is refl
other_key Equal n k v ms is differ = absurd (differ (exact n k (ap is_eq is)))
other_key Greater n k v ms is differ = rw is refl

-- a name before all keys is none of them
absent : (name : List ℕ) (ms : Members) → AllByRecursion (IsAfter name) (keys_of ms) → get_member name ms ≡ None
absent name no_members after = refl
absent name (member k v ms) after = rw after.0 (absent name ms after.1)

all_after : (name key : List ℕ) (ms : Members) → IsAfter name key → AllByRecursion (IsAfter key) (keys_of ms)
    → AllByRecursion (IsAfter name) (keys_of ms)
all_after name key no_members first after = tt
all_after name key (member k v ms) first after =
    ((lists_total nat_cmp_total).trans name key k first after.0, all_after name key ms first after.1)

-- the first member is taken
pub first_taken : (k : List ℕ) (v : Data) (ms : Members) → AreSorted (member k v ms) → IsLeft k (member k v ms) ms
unfolding IsStrictlySortedBy
first_taken k v ms sorted = record {
  sorted = sorted.1;
  above = sorted.0;
  others = λ n differ. sym (other_key _ n k v ms refl differ);
  no_more = omega arith;
  fewer = λ some. omega arith;
}

pub first_value : (name k : List ℕ) (v : Data) (ms : Members) → k ≡ name → Some v ≡ get_member name (member k v ms)
first_value name k v ms same = at (slice_cmp nat_cmp name k) refl where
  at : (o : Ordering) → slice_cmp nat_cmp name k ≡ o → Some v ≡ get_member name (member k v ms)
  at Less is = absurd (differs name k is same)
  at Equal is = rw is refl
  at Greater is =
      let apart = other name k (ap is_eq is) in
      let equal = (bytes_eq-Decides k name).1 same in
      cc (apart, equal)

-- nothing is taken of a group that has not the name
before : (name k : List ℕ) (o : Ordering) → slice_cmp nat_cmp name k ≡ o → IsTrue (is_le o) → bytes_eq k name ≡ false
    → IsAfter name k
before name k Less is le differ = is
before name k Equal is le differ =
    let same : name ≡ k = exact name k (ap is_eq is) in
    let equal : bytes_eq k name ≡ true = (bytes_eq-Decides k name).1 (sym same) in
    cc (equal, differ)
before name k Greater is le differ = cc le

after_of : (name k : List ℕ) (v : Data) (ms : Members) → AreSorted (member k v ms) → IsFirst name (member k v ms)
    → bytes_eq k name ≡ false → AllByRecursion (IsAfter name) (keys_of (member k v ms))
unfolding IsStrictlySortedBy
after_of name k v ms sorted first differ =
    let less = before name k _ refl first differ in (less, all_after name k ms less sorted.0)

pub not_there : (name k : List ℕ) (v : Data) (ms : Members) → AreSorted (member k v ms) → IsFirst name (member k v ms)
    → bytes_eq k name ≡ false → get_member name (member k v ms) ≡ None
not_there name k v ms sorted first differ = absent name (member k v ms) (after_of name k v ms sorted first differ)

pub not_taken : (name k : List ℕ) (v : Data) (ms : Members) → AreSorted (member k v ms) → IsFirst name (member k v ms)
    → bytes_eq k name ≡ false → IsLeft name (member k v ms) (member k v ms)
not_taken name k v ms sorted first differ = record {
  sorted = sorted;
  above = after_of name k v ms sorted first differ;
  others = λ n differs. refl;
  no_more = omega arith;
  fewer = λ some. absurd (no_some (get_member name (member k v ms)) (not_there name k v ms sorted first differ) some);
} where
  no_some : (found : Option Data) → found ≡ None → ¬ IsSome found
  no_some None is some = cc some
  no_some (Some d) is some = cc is

pub none_taken : (name : List ℕ) → IsLeft name no_members no_members
unfolding IsStrictlySortedBy
none_taken name = record {
  sorted = tt;
  above = tt;
  others = λ n differs. refl;
  no_more = omega arith;
  fewer = λ some. cc some;
}

-- ---- two groups

-- the names that two groups have
pub record AreNamesOf (specs locked : Members) (names : List (List ℕ)) : Type 0 where
  pub ascending : IsStrictlySortedBy (slice_cmp nat_cmp) names
  pub all : (name : List ℕ)
      → (Contains names name → IsSome (get_member name specs) ⊎ IsSome (get_member name locked))
      × (IsSome (get_member name specs) ⊎ IsSome (get_member name locked) → Contains names name)

pub none_left : AreNamesOf no_members no_members []
unfolding IsStrictlySortedBy
none_left = record {
  ascending = tt;
  all = λ name. ((λ has. absurd (omega (arith, has.1))), (λ some. elim some [ inl a ↦ cc a | inr b ↦ cc b ]));
}

all_of : {P : List ℕ → Type 0} (names : List (List ℕ)) → ((name : List ℕ) → Contains names name → P name)
    → AllByRecursion P names
all_of [] holds = tt
all_of (first ∷ names) holds = (
  holds first (0, omega arith, refl),
  all_of names (λ name has. holds name (suc has.0, omega (arith, has.1), has.2)),
)

-- a name that is left comes after the one that was taken
after_taken : (name n : List ℕ) (ms : Members) → AllByRecursion (IsAfter name) (keys_of ms)
    → IsSome (get_member n ms) → IsAfter name n
after_taken name n no_members after some = cc some
after_taken name n (member k v ms) after some = at (slice_cmp nat_cmp n k) refl some (after_taken name n ms after.1)
  where
    at : (o : Ordering) → slice_cmp nat_cmp n k ≡ o → IsSome (get_member n (member k v ms))
        → (IsSome (get_member n ms) → IsAfter name n) → IsAfter name n
    at Less is some others = others (rw is at some)
    at Equal is some others = let same : n ≡ k = exact n k (ap is_eq is) in rw same after.0
    at Greater is some others = others (rw is at some)

module _ (name : List ℕ) (specs locked left left_locked : Members) (taken : IsLeft name specs left)
    (taken_locked : IsLeft name locked left_locked) where
  later_after : (n : List ℕ) → IsSome (get_member n left) ⊎ IsSome (get_member n left_locked) → IsAfter name n
  later_after n some = elim some [
    | inl a ↦ after_taken name n left taken.above a
    | inr b ↦ after_taken name n left_locked taken_locked.above b
  ]

  -- the members that are left were there before
  pub was_there : (n : List ℕ) → IsSome (get_member n left) ⊎ IsSome (get_member n left_locked)
      → (IsSome (get_member n specs) ⊎ IsSome (get_member n locked))
      × (get_member n left ≡ get_member n specs) × (get_member n left_locked ≡ get_member n locked)
  was_there n some =
      let differ = differs name n (later_after n some) in
      let same = taken.others n differ in
      let same_locked = taken_locked.others n differ in
      (elim some [ inl a ↦ inl (rw same at a) | inr b ↦ inr (rw same_locked at b) ], same, same_locked)

  -- the name, and the names that are left
  pub next_names : (later : List (List ℕ)) → IsSome (get_member name specs) ⊎ IsSome (get_member name locked)
      → AreNamesOf left left_locked later → AreNamesOf specs locked (name ∷ later)
  unfolding IsStrictlySortedBy
  next_names later here are = record {
    ascending = (all_of later (λ n has. later_after n ((are.all n).0 has)), are.ascending);
    all = λ n. ((λ has. found n has), (λ some. listed n (bytes_eq n name) refl some));
  } where
    found : (n : List ℕ) → Contains (name ∷ later) n → IsSome (get_member n specs) ⊎ IsSome (get_member n locked)
    found n (zero, small, is) = rw (← is) here
    found n (suc k, small, is) = (was_there n ((are.all n).0 (k, omega (arith, small), is))).0

    listed : (n : List ℕ) (b : Bool) → bytes_eq n name ≡ b
        → IsSome (get_member n specs) ⊎ IsSome (get_member n locked) → Contains (name ∷ later) n
    listed n true equal some = (0, omega arith, sym ((bytes_eq-Decides n name).0 equal))
    listed n false other some =
        let differ : n ≢ name = λ same. let equal = (bytes_eq-Decides n name).1 same in cc (equal, other) in
        let same = taken.others n differ in
        let same_locked = taken_locked.others n differ in
        let has = (are.all n).1 (elim some [ inl a ↦ inl (rw same a) | inr b ↦ inr (rw same_locked b) ]) in
        (suc has.0, omega (arith, has.1), has.2)

-- the first name of two groups is in one of them
pub is_there : (name : List ℕ) (specs locked : Members) → IsFirstOf name specs locked
    → IsSome (get_member name specs) ⊎ IsSome (get_member name locked)
is_there name specs locked first =
    elim first.is [ inl a ↦ inl (key_there name specs a) | inr b ↦ inr (key_there name locked b) ] where
      key_there : (name : List ℕ) (ms : Members) → first_key ms ≡ Some name → IsSome (get_member name ms)
      key_there name no_members is = cc is
      key_there name (member k v ms) is = let same : k ≡ name = cc is in rw (← first_value name k v ms same) refl

-- the first of two names
under : (name k : List ℕ) (ms : Members) → first_key ms ≡ Some k → IsTrue (is_le (slice_cmp nat_cmp name k)) → IsFirst
    name ms
under name k no_members is le = tt
under name k (member key v ms) is le = let same : key ≡ k = cc is in rw same le

under_itself : (name : List ℕ) → IsTrue (is_le (slice_cmp nat_cmp name name))
under_itself name = at (slice_cmp nat_cmp name name) (itself name) where
  at : (o : Ordering) → is_eq o ≡ true → IsTrue (is_le o)
  at Less is = refl
  at Equal is = refl
  at Greater is = cc is

under_none : (name : List ℕ) (ms : Members) → first_key ms ≡ None → IsFirst name ms
under_none name no_members is = tt
under_none name (member key v ms) is = cc is

pub first_alone : (name : List ℕ) (specs locked : Members) → first_key specs ≡ Some name → first_key locked ≡ None
    → IsFirstOf name specs locked
first_alone name specs locked is none =
    record {
      first = under name name specs is (under_itself name);
      first_locked = under_none name locked none;
      is = inl
          is;
    }

pub first_locked : (name : List ℕ) (specs locked : Members) → first_key specs ≡ None → first_key locked ≡ Some name
    → IsFirstOf name specs locked
first_locked name specs locked none is =
    record {
      first = under_none name specs none;
      first_locked = under name name locked is (under_itself name);
      is = inr
          is;
    }

pub first_of_locked : (name other : List ℕ) (specs locked : Members) → first_key specs ≡ Some name
    → first_key locked ≡ Some other → is_lt (slice_cmp nat_cmp other name) ≡ true → IsFirstOf other specs locked
first_of_locked name other specs locked is is_other less = record {
  first = under other name specs is (le _ less);
  first_locked = under other other locked is_other (under_itself other);
  is = inr is_other;
} where
  le : (o : Ordering) → is_lt o ≡ true → IsTrue (is_le o)
  le Less is = refl
  le Equal is = refl
  le Greater is = cc is

pub first_of_specs : (name other : List ℕ) (specs locked : Members) → first_key specs ≡ Some name
    → first_key locked ≡ Some other → is_lt (slice_cmp nat_cmp other name) ≡ false → IsFirstOf name specs locked
first_of_specs name other specs locked is is_other not_less = record {
  first = under name name specs is (under_itself name);
  first_locked = under name other locked is_other (rw ((lists_total nat_cmp_total).antisymm name other)
      (le _ not_less));
  is = inl is;
} where
  le : (o : Ordering) → is_lt o ≡ false → IsTrue (is_le (ordering_reverse o))
  le Less is = cc is
  le Equal is = refl
  le Greater is = refl

pub no_first : (ms : Members) → first_key ms ≡ None → ms ≡ no_members
no_first no_members is = refl
no_first (member k v ms) is = cc is

-- ---- two groups of a manifest and of a package

-- the members of a group, which has none if it is absent or no object
pub in_members : (group : Option Data) (found : Option (Bor (BTreeMap (String Global) Value)))
    (none result : Bor (BTreeMap (String Global) Value)) (left : Members) (name : List ℕ)
    → option_map (λ members. members_view members.now.entries) found ≡ option_and_then as_object group
    → result ≡ unwrap_or found none → none.now.entries ≡ [] → left ≡ members_view result.now.entries
    → option_and_then (get name) group ≡ get_member name left
in_members group None none result left name is unwrapped empty all =
    rw (all, unwrapped, empty) (in_no_group group name (sym is))
in_members group (Some members) none result left name is unwrapped empty all =
    rw (all, unwrapped) (in_group group _ name (sym is))

pub group_names : (manifest entry : Data) (group : Group) (specs locked : Members) (names : List (List ℕ))
    → ((name : List ℕ) → option_and_then (get name) (get (group_text group) manifest) ≡ get_member name specs)
    → ((name : List ℕ) → option_and_then (get name) (get (group_text group) entry) ≡ get_member name locked)
    → AreNamesOf specs locked names → AreGroupNames manifest entry group names
group_names manifest entry group specs locked names at at_locked are = record {
  ascending = are.ascending;
  all = λ name. rw (at name, at_locked name) (are.all name);
}

-- a list that grows by a mismatch, if there is one
pub grown : (old new : List MismatchValue) (found : Option MismatchValue) (later : List MismatchValue)
    → new ≡ old ++ option_to_list found → old ++ cons_option found later ≡ new ++ later
grown old new None later is = rw (is, append-nil) refl
grown old new (Some mismatch) later is = rw is (sym (append_assoc old (mismatch ∷ []) later))
