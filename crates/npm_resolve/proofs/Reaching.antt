-- Names that are reached, one dependency after the other.
use Rattle.std.proofs.Common.{◌≡◌, ◌∙◌, ◌⊎◌, ◌↔◌, ◌++◌, ℕ, List, [], ◌∷◌, Bool, None, Some, ap, arith, bytes_eq, cond, drop, false, inl, inr, length, refl, subst, sym, true}
use Rattle.std.proofs.lemmas.List.Elements.{Contains-append_cases, Contains-append_left, Contains-append_right, Contains-push, Contains-push_cases}
use Rattle.std.proofs.lemmas.Slice.Eq.{bytes_eq-Decides}
use Rattle.std.specs.BTreeSet.{contains_text}
use Rattle.std.specs.List.{Contains}
use Rattle.serde_json.specs.Data.{Data}
use Rattle.npm_packages.specs.Asked.{AreNames, AskedValue, asked_of}
use Rattle.npm_resolve.specs.Installed.{InstalledValue, found}
use Rattle.npm_resolve.specs.Reached.{Asks, IsReached, leads}
use Rattle.npm_resolve.specs.Reached as Reaching
use Rattle.npm_resolve.specs.Private.Reaching.{AreAdded, AreBegun, AreHeld, IsAskedBy, IsNoted, IsNotedIf, IsWaiting, is_seen, waiting_of}
use Rattle.npm_resolve.specs.Private.Reaching as Gathered
use Rattle.npm_resolve.specs.declared.flat_locks.reached.Groups.{Groups}
use Rattle.npm_resolve.specs.declared.flat_locks.reached.Reached.{Reached}

-- ---- small facts

one_of : {X : Type 0} (x y : X) → Contains (x ∷ []) y → x ≡ y
one_of x y h = elim (Contains-push_cases [] x y h) [ inl none ↦ absurd (omega (arith, none.1)) | inr same ↦ same ]

first_or_later : {X : Type 0} (x : X) (xs : List X) (y : X) → Contains (x ∷ xs) y → (x ≡ y) ⊎ Contains xs y
first_or_later x xs y h = elim (Contains-append_cases (x ∷ []) xs y h) [ inl one ↦ inl (one_of x y one) | inr later ↦ inr later ]

none_in : {X : Type 0} (y : X) → Contains ([]) y → ⊥
none_in y h = omega (arith, h.1)

same_text : (x y : List ℕ) → bytes_eq x y ≡ true → x ≡ y
same_text x y h = (bytes_eq-Decides x y).0 h

itself : (x : List ℕ) → bytes_eq x x ≡ true
itself x = (bytes_eq-Decides x x).1 refl

cond_later : (t b : Bool) → b ≡ true → cond t true b ≡ true
cond_later true b h = refl
cond_later false b h = h

cond_either : (t b : Bool) → cond t true b ≡ true → (b ≡ true) ⊎ (t ≡ true)
cond_either true b h = inr refl
cond_either false b h = inl h

-- ---- the dependencies of one manifest, one after the other

pub all_left : (asker : Data) (is_installed : Bool) (groups : Groups) (names : List (List ℕ)) (a : Reached)
    → AreNames asker is_installed names → AreBegun (Asks asker is_installed groups) names a a
all_left asker is_installed groups names a are = record {
  kept = λ name h. h;
  all = λ name asks. inr ((are.all name).1 (rw asks.there refl));
  only = λ name h. inl h;
  still = λ name h. h;
  queued = λ name h. inl h;
  waited = λ name h. inl h;
}

module _ (Names : List ℕ → Type 0) (name : List ℕ) (left : List (List ℕ)) (a b c : Reached) (begun : AreBegun Names (name ∷ left) a b) where
  -- a name that is not asked for is passed
  passed_all : (other : List ℕ) → (Names name → ⊥) → Names other → (is_seen b other ≡ true) ⊎ Contains (name ∷ left) other
      → (is_seen b other ≡ true) ⊎ Contains left other
  passed_all other never names (inl seen) = inl seen
  passed_all other never names (inr there) = elim (first_or_later name left other there) [
    | inl same ↦ absurd (never (subst Names (sym same) names))
    | inr later ↦ inr later
  ]

  pub name_passed : (Names name → ⊥) → AreBegun Names left a b
  name_passed never = record {
    kept = begun.kept;
    all = λ other names. passed_all other never names (begun.all other names);
    only = begun.only;
    still = begun.still;
    queued = begun.queued;
    waited = begun.waited;
  }

  -- the same of a name that was seen before
  known_all : (other : List ℕ) → is_seen b name ≡ true → (is_seen b other ≡ true) ⊎ Contains (name ∷ left) other
      → (is_seen b other ≡ true) ⊎ Contains left other
  known_all other known (inl seen) = inl seen
  known_all other known (inr there) = elim (first_or_later name left other there) [
    | inl same ↦ inl (subst (λ (n : List ℕ). is_seen b n ≡ true) same known)
    | inr later ↦ inr later
  ]

  name_known : is_seen b name ≡ true → AreBegun Names left a b
  name_known known = record {
    kept = begun.kept;
    all = λ other names. known_all other known (begun.all other names);
    only = begun.only;
    still = begun.still;
    queued = begun.queued;
    waited = begun.waited;
  }

  module _ (names : Names name) (waits : waiting_of c ≡ waiting_of b ++ (name ∷ []))
      (seen : (other : List ℕ) → is_seen c other ≡ cond (bytes_eq name other) true (is_seen b other)) where
    later : (other : List ℕ) → is_seen b other ≡ true → is_seen c other ≡ true
    later other h = seen other ∙ cond_later (bytes_eq name other) (is_seen b other) h

    here : is_seen c name ≡ true
    here = seen name ∙ ap (λ t. cond t true (is_seen b name)) (itself name)

    either : (other : List ℕ) → is_seen c other ≡ true → (is_seen b other ≡ true) ⊎ (name ≡ other)
    either other h = elim (cond_either (bytes_eq name other) (is_seen b other) (sym (seen other) ∙ h)) [
      | inl before ↦ inl before
      | inr same ↦ inr (same_text name other same)
    ]

    now_waiting : (other : List ℕ) → IsWaiting b other → IsWaiting c other
    now_waiting other h = rw waits (Contains-append_left (waiting_of b) (name ∷ []) other h)

    this_waits : IsWaiting c name
    this_waits = rw waits (Contains-push (waiting_of b) name)

    fresh_all : (other : List ℕ) → (is_seen b other ≡ true) ⊎ Contains (name ∷ left) other
        → (is_seen c other ≡ true) ⊎ Contains left other
    fresh_all other (inl before) = inl (later other before)
    fresh_all other (inr there) = elim (first_or_later name left other there) [
      | inl same ↦ inl (subst (λ (n : List ℕ). is_seen c n ≡ true) same here)
      | inr rest ↦ inr rest
    ]

    fresh_only : (other : List ℕ) → (is_seen b other ≡ true) ⊎ (name ≡ other) → (is_seen a other ≡ true) ⊎ Names other
    fresh_only other (inl before) = begun.only other before
    fresh_only other (inr same) = inr (subst Names same names)

    fresh_queued : (other : List ℕ) → (is_seen b other ≡ true) ⊎ (name ≡ other) → (is_seen a other ≡ true) ⊎ IsWaiting c other
    fresh_queued other (inl before) = elim (begun.queued other before) [
      | inl older ↦ inl older
      | inr waiting ↦ inr (now_waiting other waiting)
    ]
    fresh_queued other (inr same) = inr (subst (λ (n : List ℕ). IsWaiting c n) same this_waits)

    fresh_waited : (other : List ℕ) → Contains (waiting_of b) other ⊎ Contains (name ∷ []) other
        → IsWaiting a other ⊎ (is_seen c other ≡ true)
    fresh_waited other (inl before) = elim (begun.waited other before) [
      | inl older ↦ inl older
      | inr was ↦ inr (later other was)
    ]
    fresh_waited other (inr one) = inr (subst (λ (n : List ℕ). is_seen c n ≡ true) (one_of name other one) here)

    name_fresh : AreBegun Names left a c
    name_fresh = record {
      kept = λ other h. later other (begun.kept other h);
      all = λ other asks. fresh_all other (begun.all other asks);
      only = λ other h. fresh_only other (either other h);
      still = λ other h. now_waiting other (begun.still other h);
      queued = λ other h. fresh_queued other (either other h);
      waited = λ other h. fresh_waited other (Contains-append_cases (waiting_of b) (name ∷ []) other
          (subst (λ (l : List (List ℕ)). Contains l other) waits h));
    }

  pub name_more : Names name → IsNoted name b c → AreBegun Names left a c
  name_more names (Gathered.known seen same) = rw same (name_known seen)
  name_more names (Gathered.fresh waits seen) = name_fresh names waits seen

  -- it is asked for, or not
  pub name_read : (t : Bool) → (t ≡ true → Names name) → (t ≡ false → Names name → ⊥) → IsNotedIf t name b c → AreBegun Names left a c
  name_read true names never noted = name_more (names refl) noted
  name_read false names never same = rw same (name_passed (never refl))

pub all_added : (Names : List ℕ → Type 0) (a b : Reached) → AreBegun Names [] a b → AreAdded Names a b
all_added Names a b begun = record {
  kept = begun.kept;
  all = λ name names. elim (begun.all name names) [ inl seen ↦ seen | inr there ↦ absurd (none_in name there) ];
  only = begun.only;
  still = begun.still;
  queued = begun.queued;
  waited = begun.waited;
}

-- a dependency that does not lead is not asked for
pub no_asks : (asker : Data) (is_installed : Bool) (groups : Groups) (name : List ℕ) (asked : AskedValue)
    → asked_of asker is_installed name ≡ Some asked → leads groups asked ≡ false → Asks asker is_installed groups name → ⊥
no_asks asker is_installed groups name asked there free asks =
    let same : Some asks.asked ≡ Some asked = sym asks.there ∙ there in
    let is : asks.asked ≡ asked = cc same in
    let yes : leads groups asked ≡ true = subst (λ (x : AskedValue). leads groups x ≡ true) is asks.leading in
    cc (yes, free)

-- ---- the dependencies of the package of a name

pub added_alike : (Some_names Names : List ℕ → Type 0) (a b : Reached) → ((name : List ℕ) → Names name → Some_names name)
    → ((name : List ℕ) → Some_names name → Names name) → AreAdded Some_names a b → AreAdded Names a b
added_alike Some_names Names a b to from added = record {
  kept = added.kept;
  all = λ name names. added.all name (to name names);
  only = λ name h. elim (added.only name h) [ inl before ↦ inl before | inr names ↦ inr (from name names) ];
  still = added.still;
  queued = added.queued;
  waited = added.waited;
}

pub none_added : (Names : List ℕ → Type 0) (a : Reached) → ((name : List ℕ) → Names name → ⊥) → AreAdded Names a a
none_added Names a none = record {
  kept = λ name h. h;
  all = λ name names. absurd (none name names);
  only = λ name h. inl h;
  still = λ name h. h;
  queued = λ name h. inl h;
  waited = λ name h. inl h;
}

module _ (installed : List InstalledValue) (groups : Groups) (asker : List ℕ) where
  asks_of_one : (one : InstalledValue) → found installed asker ≡ Some one → (name : List ℕ) → IsAskedBy installed groups asker name
      → Asks one.manifest true groups name
  asks_of_one one there name by =
      let same : Some by.one ≡ Some one = sym by.there ∙ there in
      let is : by.one ≡ one = cc same in
      subst (λ (x : InstalledValue). Asks x.manifest true groups name) is by.asks

  pub added_of_one : (one : InstalledValue) (a b : Reached) → found installed asker ≡ Some one
      → AreAdded (Asks one.manifest true groups) a b → AreAdded (IsAskedBy installed groups asker) a b
  added_of_one one a b there added = added_alike (Asks one.manifest true groups) (IsAskedBy installed groups asker) a b
      (asks_of_one one there) (λ name asks. record { one = one; there = there; asks = asks }) added

  never_asked : found installed asker ≡ None → (name : List ℕ) → IsAskedBy installed groups asker name → ⊥
  never_asked none name by = let no : Some by.one ≡ None = sym by.there ∙ none in (cc no)

  pub added_of_none : (a : Reached) → found installed asker ≡ None → AreAdded (IsAskedBy installed groups asker) a a
  added_of_none a none = none_added (IsAskedBy installed groups asker) a (never_asked none)

-- ---- all names

module _ (root : Data) (installed : List InstalledValue) (groups : Groups) where
  module _ (start reached : Reached) (empty : waiting_of start ≡ []) (unseen : (name : List ℕ) → is_seen start name ≡ false)
      (added : AreAdded (Asks root false groups) start reached) where
    not_before : (name : List ℕ) → {P : Type 0} → is_seen start name ≡ true → P
    not_before name before = absurd (let no : true ≡ false = sym before ∙ unseen name in (cc no))

    none_waited : (name : List ℕ) → {P : Type 0} → IsWaiting start name → P
    none_waited name waiting = absurd (none_in name (subst (λ (l : List (List ℕ)). Contains l name) empty waiting))

    pub begins : AreHeld root installed groups reached
    begins = record {
      sound = λ name h. elim (added.only name h) [
        | inl before ↦ not_before name before
        | inr asks ↦ Reaching.from_root name asks
      ];
      waited = λ name h. elim (added.waited name h) [ inl waiting ↦ none_waited name waiting | inr seen ↦ seen ];
      of_root = added.all;
      closed = λ name h. elim (added.queued name h) [ inl before ↦ not_before name before | inr waiting ↦ inl waiting ];
    }

  module _ (old popped new : Reached) (name : List ℕ) (queued : waiting_of old ≡ name ∷ waiting_of popped)
      (same : popped.seen ≡ old.seen) (held : AreHeld root installed groups old)
      (added : AreAdded (IsAskedBy installed groups name) popped new) where
    was_seen : (other : List ℕ) → is_seen popped other ≡ true → is_seen old other ≡ true
    was_seen other h = ap (λ s. contains_text s other) (sym same) ∙ h

    still_seen : (other : List ℕ) → is_seen old other ≡ true → is_seen popped other ≡ true
    still_seen other h = ap (λ s. contains_text s other) same ∙ h

    still_waits : (other : List ℕ) → IsWaiting popped other → IsWaiting old other
    still_waits other h = subst (λ (l : List (List ℕ)). Contains l other) (sym queued)
        (Contains-append_right (name ∷ []) (waiting_of popped) other h)

    this_reached : IsReached root installed groups name
    this_reached = held.sound name (held.waited name (subst (λ (l : List (List ℕ)). Contains l name) (sym queued)
        (Contains-append_left (name ∷ []) (waiting_of popped) name (Contains-push [] name))))

    sound_more : (other : List ℕ) → (is_seen popped other ≡ true) ⊎ IsAskedBy installed groups name other
        → IsReached root installed groups other
    sound_more other (inl before) = held.sound other (was_seen other before)
    sound_more other (inr by) = Reaching.from_package name other by.one this_reached by.there by.asks

    waited_more : (other : List ℕ) → IsWaiting popped other ⊎ (is_seen new other ≡ true) → is_seen new other ≡ true
    waited_more other (inl waiting) = added.kept other (still_seen other (held.waited other (still_waits other waiting)))
    waited_more other (inr seen) = seen

    abbrev Closed : (asker : List ℕ) → Type 0
    Closed asker = IsWaiting new asker ⊎ ((other : List ℕ) → IsAskedBy installed groups asker other → is_seen new other ≡ true)

    closed_waiting : (asker : List ℕ) → Contains (name ∷ waiting_of popped) asker → Closed asker
    closed_waiting asker there = elim (first_or_later name (waiting_of popped) asker there) [
      | inl is ↦ inr (λ other by. added.all other (subst (λ (n : List ℕ). IsAskedBy installed groups n other) (sym is) by))
      | inr rest ↦ inl (added.still asker rest)
    ]

    closed_before : (asker : List ℕ)
        → IsWaiting old asker ⊎ ((other : List ℕ) → IsAskedBy installed groups asker other → is_seen old other ≡ true) → Closed asker
    closed_before asker (inl waiting) = closed_waiting asker (subst (λ (l : List (List ℕ)). Contains l asker) queued waiting)
    closed_before asker (inr all) = inr (λ other by. added.kept other (still_seen other (all other by)))

    closed_more : (asker : List ℕ) → (is_seen popped asker ≡ true) ⊎ IsWaiting new asker → Closed asker
    closed_more asker (inl before) = closed_before asker (held.closed asker (was_seen asker before))
    closed_more asker (inr waiting) = inl waiting

    pub held_more : AreHeld root installed groups new
    held_more = record {
      sound = λ other h. sound_more other (added.only other h);
      waited = λ other h. waited_more other (added.waited other h);
      of_root = λ other asks. added.kept other (still_seen other (held.of_root other asks));
      closed = λ asker h. closed_more asker (added.queued asker h);
    }

  module _ (reached : Reached) (empty : waiting_of reached ≡ []) (held : AreHeld root installed groups reached) where
    nothing_waits : (asker other : List ℕ)
        → IsWaiting reached asker ⊎ ((name : List ℕ) → IsAskedBy installed groups asker name → is_seen reached name ≡ true)
        → IsAskedBy installed groups asker other → is_seen reached other ≡ true
    nothing_waits asker other (inl waiting) by =
        absurd (none_in asker (subst (λ (l : List (List ℕ)). Contains l asker) empty waiting))
    nothing_waits asker other (inr all) by = all other by

    complete : (name : List ℕ) → IsReached root installed groups name → is_seen reached name ≡ true
    complete name (Reaching.from_root same asks) = held.of_root name asks
    complete name (Reaching.from_package asker same one before there asks) = nothing_waits asker name
        (held.closed asker (complete asker before)) (record { one = one; there = there; asks = asks })

    pub all_reached : (name : List ℕ) → (is_seen reached name ≡ true) ↔ IsReached root installed groups name
    all_reached name = (held.sound name, complete name)

-- a list that is its own rest
pub nothing_left : {X : Type 0} (xs : List X) → xs ≡ drop 1 xs → xs ≡ []
nothing_left [] h = refl
nothing_left (x ∷ xs) h = absurd (omega (arith, ap length h))
