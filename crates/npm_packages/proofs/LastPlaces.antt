-- The last folder up to some bytes, the first one from there, and the text that each folder above begins with.
use Rattle.std.proofs.Common.{◌≡◌, ◌∙◌, ◌⊎◌, ◌<◌, ◌≤◌, ◌-◌, ℕ, zero, suc, List, [], ◌∷◌, ◌++◌, true, false, Ordering}
use Rattle.std.proofs.Common.{Less, Equal, Greater, ap, append-nil, arith, inl, inr, length, nat_cmp, refl, slice_index, nat_lt, sym, take, Bool, None, Some}
use Rattle.std.proofs.lemmas.Bool.Decides.{nat_tests}
use Rattle.std.proofs.lemmas.Cmp.{nat_cmp_total, tied_itself}
use Rattle.std.proofs.lemmas.List.{length-append}
use Rattle.std.proofs.lemmas.Map.Lookups.{exact_bytes, exact_unsigned}
use Rattle.std.specs.Cmp.Lexicographic.{nat_list_cmp_total, slice_cmp}
use Rattle.std.specs.Ordering.{is_gt, is_lt, ordering_reverse, ordering_then}
use Rattle.std.specs.BTreeMap.Range.{IsEntryInRange, IsInRange, IsRangeOf}
use Rattle.std.specs.Option.{IsSome}
use Rattle.std.specs.declared.ops.Bound.TheVariants.{Included, Unbounded}
use denote.Ref.{Bor}
use Rattle.npm_packages.specs.Index.{Places, at_place}
use Rattle.npm_packages.specs.Private.Index.{IsFirstFrom, IsLastTo, IsUpTo}
use Rattle.npm_packages.specs.Private.Search.{BeginsWith}
use Rattle.npm_packages.specs.declared.index.Hit.{Hit}

-- ---- two keys of the index

-- keys of one name are in the order of their folders
pub of_one_name : (name : List ℕ) (o : Ordering) → ordering_then (slice_cmp nat_cmp name name) o ≡ o
of_one_name name o = rw (tied_itself nat_list_cmp_total name) refl

-- a key between two of one name has that name
pub between_names : (key name : List ℕ) (a b : Ordering) → is_gt (ordering_then (slice_cmp nat_cmp key name) a) ≡ false
    → is_lt (ordering_then (slice_cmp nat_cmp key name) b) ≡ false → key ≡ name
between_names key name a b up down = by_order (slice_cmp nat_cmp key name) refl where
  by_order : (o : Ordering) → slice_cmp nat_cmp key name ≡ o → key ≡ name
  by_order Less is = let low : true ≡ false = rw is at down in absurd (cc low)
  by_order Equal is = exact_bytes key name is
  by_order Greater is = let high : true ≡ false = rw is at up in absurd (cc high)

abbrev pub Key : Type 0
Key = Bor (List ℕ) × Bor (List ℕ)

abbrev pub key_cmp : Key → Key → Ordering
key_cmp x y = ordering_then (slice_cmp nat_cmp x.0.now y.0.now) (slice_cmp nat_cmp x.1.now y.1.now)

abbrev pub key_of : (name folder : List ℕ) → Key
key_of name folder = (record { ref_ptr = (0, 0); now = name }, record { ref_ptr = (0, 0); now = folder })

-- ---- the keys up to a name and some bytes

module _ (places : Places) (bound : Key) (range : List (Key × Hit))
    (is_range : IsRangeOf key_cmp Unbounded (Included bound) places range)
  where
    in_range : (folder : List ℕ) → IsUpTo folder bound.1.now
        → IsInRange key_cmp Unbounded (Included bound) (key_of bound.0.now folder)
    in_range folder up = (tt, rw (of_one_name bound.0.now (slice_cmp nat_cmp folder bound.1.now)) up)

    pub none_in : range ≡ [] → (folder : List ℕ) → IsSome (at_place places bound.0.now folder)
        → IsUpTo folder bound.1.now → ⊥
    none_in empty folder some up =
        let none : at_place places bound.0.now folder ≡ None =
        is_range.5 empty (key_of bound.0.now folder) (in_range folder up) in
        cc (rw none at some)

    module _ (e : Key × Hit) (front : List (Key × Hit)) (is : range ≡ front ++ e ∷ []) where
      not_before : (folder : List ℕ) → IsSome (at_place places bound.0.now folder) → IsUpTo folder bound.1.now
          → is_lt (ordering_then (slice_cmp nat_cmp e.0.0.now bound.0.now) (slice_cmp nat_cmp e.0.1.now folder)) ≡ false
      not_before folder some up = is_range.4 e front is (key_of bound.0.now folder) (in_range folder up) some

      up_to_bound : is_gt (ordering_then (slice_cmp nat_cmp e.0.0.now bound.0.now) (slice_cmp nat_cmp e.0.1.now bound.1.now))
          ≡ false
      up_to_bound = (is_range.3 e front is).0.1

      pub last_in : e.0.0.now ≡ bound.0.now → IsLastTo places bound.0.now bound.1.now e.1
      last_in same =
          let there : at_place places e.0.0.now e.0.1.now ≡ Some e.1 = (is_range.3 e front is).1 in
          record {
            folder = e.0.1.now;
            there = rw same at there;
            up_to = rw (of_one_name bound.0.now (slice_cmp nat_cmp e.0.1.now bound.1.now)) at (rw same at up_to_bound);
            last = λ other some up. rw (of_one_name bound.0.now (slice_cmp nat_cmp e.0.1.now other)) at
                (rw same at (not_before other some up));
          }

      pub other_in : (e.0.0.now ≡ bound.0.now → ⊥) → (folder : List ℕ) → IsSome (at_place places bound.0.now folder)
          → IsUpTo folder bound.1.now → ⊥
      other_in differ folder some up =
          differ (between_names e.0.0.now bound.0.now _ _ up_to_bound (not_before folder some up))

-- ---- the keys from a name and some bytes

-- what is not before a text
pub not_before_it : (text other : List ℕ) → IsUpTo text other → is_lt (slice_cmp nat_cmp other text) ≡ false
not_before_it text other up =
    rw (nat_list_cmp_total.antisymm other text) (by_order (slice_cmp nat_cmp text other) up) where
      by_order : (o : Ordering) → is_gt o ≡ false → is_lt (ordering_reverse o) ≡ false
      by_order Less is = refl
      by_order Equal is = refl
      by_order Greater is = cc is

-- a text is up to what the text after it is up to
pub up_to_it : (a b c : List ℕ) → IsUpTo a b → IsUpTo b c → IsUpTo a c
up_to_it a b c first second = by_order (slice_cmp nat_cmp a b) (slice_cmp nat_cmp b c) refl refl where
  by_order : (o p : Ordering) → slice_cmp nat_cmp a b ≡ o → slice_cmp nat_cmp b c ≡ p → IsUpTo a c
  by_order Less Less is then = rw (nat_list_cmp_total.trans a b c is then) refl
  by_order Less Equal is then = rw (← exact_bytes b c then, is) refl
  by_order Less Greater is then = let never : true ≡ false = rw then at second in absurd (cc never)
  by_order Equal p is then = rw (exact_bytes a b is) second
  by_order Greater p is then = let never : true ≡ false = rw is at first in absurd (cc never)

names_between : (key name : List ℕ) (a b : Ordering) → is_gt (ordering_then (slice_cmp nat_cmp key name) a) ≡ false
    → is_gt (ordering_then (slice_cmp nat_cmp name key) b) ≡ false → key ≡ name
names_between key name a b up down = by_order (slice_cmp nat_cmp key name) refl where
  by_order : (o : Ordering) → slice_cmp nat_cmp key name ≡ o → key ≡ name
  by_order Less is =
      let low : true ≡ false = rw (nat_list_cmp_total.antisymm name key, is) at down in absurd (cc low)
  by_order Equal is = exact_bytes key name is
  by_order Greater is = let high : true ≡ false = rw is at up in absurd (cc high)

module _ (places : Places) (bound : Key) (range : List (Key × Hit))
    (is_range : IsRangeOf key_cmp (Included bound) Unbounded places range)
  where
    from_range : (folder : List ℕ) → IsUpTo bound.1.now folder
        → IsInRange key_cmp (Included bound) Unbounded (key_of bound.0.now folder)
    from_range folder from = (rw (of_one_name bound.0.now (slice_cmp nat_cmp bound.1.now folder)) from, tt)

    pub none_from : range ≡ [] → (folder : List ℕ) → IsSome (at_place places bound.0.now folder)
        → IsUpTo bound.1.now folder → ⊥
    none_from empty folder some from =
        let none : at_place places bound.0.now folder ≡ None =
        is_range.5 empty (key_of bound.0.now folder) (from_range folder from) in
        cc (rw none at some)

    module _ (e : Key × Hit) (rest : List (Key × Hit)) (is : range ≡ e ∷ rest) where
      not_after : (folder : List ℕ) → IsSome (at_place places bound.0.now folder) → IsUpTo bound.1.now folder
          → is_gt (ordering_then (slice_cmp nat_cmp e.0.0.now bound.0.now) (slice_cmp nat_cmp e.0.1.now folder)) ≡ false
      not_after folder some from = rw is at (is_range.2 (key_of bound.0.now folder) (from_range folder from) some)

      first_entry : IsEntryInRange key_cmp (Included bound) Unbounded places e
      first_entry = rw is at is_range.1

      pub first_in : e.0.0.now ≡ bound.0.now → IsFirstFrom places bound.0.now bound.1.now e.1
      first_in same =
          let there : at_place places e.0.0.now e.0.1.now ≡ Some e.1 = first_entry.1 in
          record {
            folder = e.0.1.now;
            there = rw same at there;
            from = rw (of_one_name bound.0.now (slice_cmp nat_cmp bound.1.now e.0.1.now)) at (rw same at first_entry.0.0);
            first = λ other some from. rw (of_one_name bound.0.now (slice_cmp nat_cmp e.0.1.now other)) at
                (rw same at (not_after other some from));
          }

      pub other_from : (e.0.0.now ≡ bound.0.now → ⊥) → (folder : List ℕ) → IsSome (at_place places bound.0.now folder)
          → IsUpTo bound.1.now folder → ⊥
      other_from differ folder some from =
          differ (names_between e.0.0.now bound.0.now _ _ (not_after folder some from) first_entry.0.0)

-- ---- beginnings

-- what lies between a beginning of a text and the text has that beginning
one_more : (b c : ℕ) (start rest text : List ℕ) (o : Ordering) → nat_cmp c b ≡ o
    → (is_lt (slice_cmp nat_cmp text start) ≡ false → is_gt (slice_cmp nat_cmp text (start ++ rest)) ≡ false
    → BeginsWith text start)
    → is_lt (ordering_then o (slice_cmp nat_cmp text start)) ≡ false
    → is_gt (ordering_then o (slice_cmp nat_cmp text (start ++ rest))) ≡ false → BeginsWith (c ∷ text) (b ∷ start)
one_more b c start rest text Less is later low high = absurd (cc low)
one_more b c start rest text Equal is later low high =
    let more = later low high in
    let same : c ≡ b = exact_unsigned c b is in
    (more.0, cc (same, more.1))
one_more b c start rest text Greater is later low high = absurd (cc high)

pub between : (start rest text : List ℕ) → is_lt (slice_cmp nat_cmp text start) ≡ false
    → is_gt (slice_cmp nat_cmp text (start ++ rest)) ≡ false → BeginsWith text start
between [] rest text low high = (text, refl)
between (b ∷ start) rest [] low high = absurd (cc low)
between (b ∷ start) rest (c ∷ text) low high =
    one_more b c start rest text (nat_cmp c b) refl (between start rest text) low high

pub begins_between : (start left text : List ℕ) → BeginsWith left start → is_lt (slice_cmp nat_cmp text start) ≡ false
    → IsUpTo text left → BeginsWith text start
begins_between start left text is low high = between start is.0 text low (rw is.1 at high)

-- a beginning is not after the text
pub start_up_to : (start left : List ℕ) → BeginsWith left start → IsUpTo start left
start_up_to start left is = rw is.1 (by_start start is.0) where
  by_start : (start rest : List ℕ) → is_gt (slice_cmp nat_cmp start (start ++ rest)) ≡ false
  by_start [] [] = refl
  by_start [] (c ∷ rest) = refl
  by_start (b ∷ start) rest = rw (tied_itself nat_cmp_total b) (by_start start rest)

pub whole_or_less : (text start : List ℕ) → BeginsWith text start → (start ≡ text) ⊎ (length start < length text)
whole_or_less text start ([], is) = inl (sym (append-nil start) ∙ sym is)
whole_or_less text start (b ∷ rest, is) =
    inr (omega (arith, ap (λ t. length t) is, length-append start (b ∷ rest)))

-- neither before a text nor after it
pub same_text : (text other : List ℕ) → is_lt (slice_cmp nat_cmp text other) ≡ false
    → is_gt (slice_cmp nat_cmp text other) ≡ false → text ≡ other
same_text text other low high = by_order (slice_cmp nat_cmp text other) refl where
  by_order : (o : Ordering) → slice_cmp nat_cmp text other ≡ o → text ≡ other
  by_order Less is = let never : true ≡ false = rw is at low in absurd (cc never)
  by_order Equal is = exact_bytes text other is
  by_order Greater is = let never : true ≡ false = rw is at high in absurd (cc never)

-- ---- what two texts share

pub begins_taken : (text start : List ℕ) (n : ℕ) → BeginsWith text start → length start ≤ n
    → BeginsWith (take n text) start
begins_taken text start n is long = (take (n - length start) is.0, rw is.1 (by_start start is.0 n long)) where
  by_start : (start rest : List ℕ) (n : ℕ) → length start ≤ n
      → take n (start ++ rest) ≡ start ++ take (n - length start) rest
  by_start [] rest n long = let whole : n - 0 ≡ n = omega arith in ap (λ m. take m rest) (sym whole)
  by_start (b ∷ start) rest zero long = absurd (omega (arith, long))
  by_start (b ∷ start) rest (suc n) long =
      let less : suc n - length (b ∷ start) ≡ n - length start = omega arith in
      rw less (ap (λ t. b ∷ t) (by_start start rest n (omega (arith, long))))

pub start_at : (text start : List ℕ) (i : ℕ) → BeginsWith text start → i < length start
    → slice_index text i ≡ slice_index start i
start_at text start i is small = rw is.1 (by_start start is.0 i small) where
  by_start : (start rest : List ℕ) (i : ℕ) → i < length start
      → slice_index (start ++ rest) i ≡ slice_index start i
  by_start [] rest i small = absurd (omega (arith, small))
  by_start (b ∷ start) rest zero small = refl
  by_start (b ∷ start) rest (suc i) small = by_start start rest i (omega (arith, small))

-- a beginning of both ends where they differ
pub no_more : (left folder start : List ℕ) (n : ℕ) → BeginsWith left start → BeginsWith folder start
    → (slice_index left n ≡ slice_index folder n → ⊥) → length start ≤ n
no_more left folder start n of_left of_folder differ = by_size (nat_lt n (length start)) refl where
  by_size : (b : Bool) → nat_lt n (length start) ≡ b → length start ≤ n
  by_size true small =
      let less : n < length start = grind (arith, nat_tests) in
      absurd (differ (start_at left start n of_left less ∙ sym (start_at folder start n of_folder less)))
  by_size false large = grind (arith, nat_tests)

pub longer : (text start : List ℕ) → BeginsWith text start → length start ≤ length text
longer text start is = omega (arith, ap (λ t. length t) is.1, length-append start is.0)
